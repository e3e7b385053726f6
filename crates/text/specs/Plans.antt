-- What the straight stretch from start to goal shows of a hall. Assumes nothing: these are definitions.
use Rattle.std.specs.Prelude.{◌≡◌, List, [], ◌∷◌, map, Result, Ok, Err, vec_items}
use Rattle.algebra.specs.Hall.{Place, Free, Straight, Way}
use Rattle.exact.specs.Points.{place_of}
use Rattle.hall.specs.declared.refusals.Refusal.{Refusal}
use Rattle.hall.specs.Tasks.{Task}
use Rattle.text.specs.declared.answers.Answer.{Answer}
use Rattle.text.specs.declared.answers.Answer.TheVariants as answer
use Rattle.text.specs.declared.plans.Plan.{Plan}
use Rattle.text.specs.declared.plans.Plan.TheVariants as plan

-- the places of a way without corners
abbrev pub ends : Task → List Place
ends k = k.start ∷ k.goal ∷ []

-- what is said of a hall: the straight stretch from start to goal is a way, over these two places; or there is no way at all; or a hall in which
-- both ends are free and the straight stretch isn't is left undecided
abbrev pub Decided : Task → Plan → Type 0
Decided k (plan.Way ps) = (map place_of (vec_items ps) ≡ ends k) × Way k.hall k.start [] k.goal
Decided k plan.None = (ps : List Place) → Way k.hall k.start ps k.goal → ⊥
Decided k plan.Undecided = Free k.hall k.start × Free k.hall k.goal × (Straight k.hall k.start k.goal → ⊥)

-- a plan as an answer
abbrev pub Lends : Plan → Answer → Type 0
Lends (plan.Way ps) a = (qs : _) × (a ≡ answer.Way qs) × (qs.now ≡ vec_items ps)
Lends plan.None a = a ≡ answer.None
Lends plan.Undecided a = a ≡ answer.Undecided

-- the reply to be printed: the plan as an answer, or the same refusal
abbrev pub RepliesWith : Result Plan Refusal → Result Answer Refusal → Type 0
RepliesWith (Ok p) (Ok a) = Lends p a
RepliesWith (Ok p) (Err e) = ⊥
RepliesWith (Err e) (Ok a) = ⊥
RepliesWith (Err e) (Err f) = f ≡ e
