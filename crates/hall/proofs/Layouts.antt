-- The faults of a task, by where its parts begin. Assumes nothing.
use Rattle.std.proofs.Common.{◌≡◌, ℕ, ◌+◌, ◌^◌, leb, List, length, Option, sym, ap, ◌∙◌}
use Rattle.hall.specs.declared.refusals.Refusal.{Refusal}
use Rattle.hall.specs.declared.refusals.Refusal.TheVariants.{Length, Number, Count}
use Rattle.hall.specs.Bytes.{little}
use Rattle.hall.specs.Format.{◌then◌, first_below, unless, past, shape_fault, place_fault, task_fault, count_from, thing_count, start_from}

-- the same questions, where the number n of things stands at c and the start begins at s
abbrev pub faults_at : List ℕ → ℕ → ℕ → ℕ → Option Refusal
faults_at bs c n s =
    unless (leb (s + 24 + 24) (length bs)) (Length (length bs))
    then unless (leb (little 2 bs 0) 1000) (Number 0)
    then unless (leb (little 2 bs 2) 1000) (Number 2)
    then shape_fault 200 bs 4
    then unless (leb n 40) (Count c)
    then first_below n (λ k. shape_fault 1000 bs (past k bs (c + 1)))
    then place_fault (2 ^ 20) bs s
    then place_fault (2 ^ 20) bs (s + 24)
    then unless (leb (length bs) (s + 24 + 24)) (Length (s + 24 + 24))

pub task_fault_at : (bs : List ℕ) (c n s : ℕ) → c ≡ count_from bs → n ≡ thing_count bs → s ≡ start_from bs → task_fault bs ≡ faults_at bs c n s
unfolding task_fault
task_fault_at bs c n s d e f =
    sym (ap (λ (k : ℕ). faults_at bs k n s) d ∙ (ap (λ (k : ℕ). faults_at bs (count_from bs) k s) e ∙ ap (faults_at bs (count_from bs) (thing_count bs)) f))
