-- What the programs reply to bytes. Assumes nothing: these are definitions.
use Rattle.std.specs.Prelude.{◌≡◌, ℕ, ◌⊎◌, List, Some, None, Ok, Err, Result}
use Rattle.hall.specs.declared.refusals.Refusal.{Refusal}
use Rattle.hall.specs.declared.refusals.Refusal.TheVariants.{Memory}
use Rattle.hall.specs.Format.{task_fault, task_at, way_fault, way_at}
use Rattle.motion.specs.Driving.{Judged}
use Rattle.text.specs.declared.answers.Answer.{Answer}
use Rattle.text.specs.declared.answers.Answer.TheVariants as answer
use Rattle.text.specs.declared.plans.Plan.{Plan}
use Rattle.text.specs.Plans.{Decided}

-- `plan`: bytes with a fault are refused for it; of a hall that is taken the straight stretch decides, unless memory is wanting
abbrev pub Planned : List ℕ → Result Plan Refusal → Type 0
Planned bs (Err e) = (task_fault bs ≡ Some e) ⊎ ((e ≡ Memory) × (task_fault bs ≡ None))
Planned bs (Ok p) = (task_fault bs ≡ None) × Decided (task_at bs) p

-- what the checker says of the task and the way that the bytes are
abbrev pub Verdict : List ℕ → List ℕ → Result (Unit {0}) Refusal → Type 0
Verdict hs ws r = Judged (task_at hs).hall (task_at hs).start (task_at hs).goal (way_at ws) r

-- why `check_way` refuses: a fault of the hall comes first, then one of the way, then what the checker finds; or memory is wanting
pub data Refuses (hs ws : List ℕ) (e : Refusal) : Type 0 where
  by_hall : task_fault hs ≡ Some e → Refuses hs ws e
  by_way : task_fault hs ≡ None → way_fault ws ≡ Some e → Refuses hs ws e
  by_checker : task_fault hs ≡ None → way_fault ws ≡ None → Verdict hs ws (Err e) → Refuses hs ws e
  by_memory : task_fault hs ≡ None → e ≡ Memory → Refuses hs ws e

-- `check_way`: accepted is what can be driven
abbrev pub Checked : List ℕ → List ℕ → Result Answer Refusal → Type 0
Checked hs ws (Err e) = Refuses hs ws e
Checked hs ws (Ok a) = (a ≡ answer.Accepted) × (task_fault hs ≡ None) × (way_fault ws ≡ None) × Verdict hs ws (Ok tt)
