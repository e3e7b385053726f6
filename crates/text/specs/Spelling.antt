-- What the programs print of a reply, byte for byte (the text of a refusal is in hall's Refusals): lines of ASCII, each ended by a newline. Numbers are in decimal, by the library's `decimal`
-- and `signed_decimal`: with no zero in front, and a minus sign before a number below 0. Assumes nothing: these are definitions.
use Rattle.std.specs.Prelude.{ℕ, List, ◌++◌, ℤ, codes, decimal, Result, Ok, Err}
use Rattle.std.specs.List.{flat_map}
use Rattle.std.specs.Fmt.{signed_decimal}
use Rattle.exact.specs.declared.points.Place.{Place}
use Rattle.hall.specs.declared.refusals.Refusal.{Refusal}
use Rattle.hall.specs.Refusals.{refusal_text}
use Rattle.text.specs.declared.answers.Answer.{Answer}
use Rattle.text.specs.declared.answers.Answer.TheVariants as answer
use Rattle.text.specs.Lowest.{top, bottom}

-- as 2/3, or -2/3
abbrev pub fraction : ℤ → ℕ → List ℕ
fraction n d = signed_decimal n ++ (codes "/" ++ decimal d)

-- a coordinate x / w, in lowest terms
abbrev pub coordinate : ℤ → ℕ → List ℕ
coordinate x w = fraction (top x w) (bottom x w)

-- a place is a line of its own, as 8/1 5/1
abbrev pub line : Place → List ℕ
line p = coordinate p.x p.w ++ (codes " " ++ (coordinate p.y p.w ++ codes "\n"))

abbrev pub lines : List Place → List ℕ
lines = flat_map line

abbrev pub told : Answer → List ℕ
told (answer.Way ps) = codes "way\n" ++ lines ps.now
told answer.None = codes "none\n"
told answer.Accepted = codes "accepted\n"
told answer.Undecided = codes "undecided\n"

-- as refused 4 at 9, or refused 7 at 3 2
abbrev pub refusal_line : Refusal → List ℕ
refusal_line r = refusal_text r ++ codes "\n"

abbrev pub spelled : Result Answer Refusal → List ℕ
spelled (Ok a) = told a
spelled (Err r) = refusal_line r
