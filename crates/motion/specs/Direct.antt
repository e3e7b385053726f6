-- What the straight stretch from start to goal shows. Assumes nothing: these are definitions.
use Rattle.std.specs.Prelude.{List, []}
use Rattle.algebra.specs.Hall.{Place, Hall, Free, Straight, Way}
use Rattle.motion.specs.declared.direct.Outlook.{Outlook}
use Rattle.motion.specs.declared.direct.Outlook.TheVariants as outlook

-- the stretch is a way; or an end isn't free, and there is no way at all; or both ends are free, and the stretch isn't
abbrev pub Seen : Hall → Place → Place → Outlook → Type 0
Seen h s t outlook.Straight = Way h s [] t
Seen h s t outlook.Shut = (ps : List Place) → Way h s ps t → ⊥
Seen h s t outlook.Open = Free h s × Free h t × (Straight h s t → ⊥)
