-- What the checker says of a way, given by its places. Assumes nothing: these are definitions.
use Rattle.std.specs.Prelude.{◌≡◌, ℕ, ◌+◌, ◌-◌, ◌<◌, cond, ◌⊎◌, List, [], ◌∷◌, ◌++◌, length, pos, Ok, Err, Result, ◌==◌, slice_index_or}
use Rattle.algebra.specs.Hall.{Place, Hall, Meets, Within, Way, between}
use Rattle.algebra.specs.Forms.{Same}
use Rattle.hall.specs.declared.refusals.Refusal.{Refusal}
use Rattle.hall.specs.declared.refusals.Refusal.TheVariants.{Length, Number, Count, Bend, Slice, Waypoint, Collision, Memory}

-- place number k of a way
abbrev pub place : List Place → ℕ → Place
place ps k = slice_index_or ps k (record { x = pos 0; y = pos 0; w = 1 })

-- a way of the places ps, its start and end among them, can be driven from s to t: a way of one place is both its start and its end
pub record Drives (h : Hall) (s t : Place) (ps : List Place) : Type 0 where
  pub first : Place
  pub inner : List Place
  pub last : Place
  pub places : (ps ≡ first ∷ (inner ++ last ∷ [])) ⊎ ((ps ≡ first ∷ []) × (inner ≡ []) × (last ≡ first))
  pub start : Same first s
  pub end : Same last t
  pub way : Way h s inner t

-- place number k is in the hall, and is the start if it is the first, and the end if it is the last
pub record Right (h : Hall) (s t : Place) (ps : List Place) (k : ℕ) : Type 0 where
  pub within : Within h (place ps k)
  pub first : k ≡ 0 → Same (place ps k) s
  pub last : k + 1 ≡ length ps → Same (place ps k) t

-- the number of stretches of n places; stretch number k goes from place k to the next, where there is one
abbrev pub stretches : ℕ → ℕ
stretches n = cond (n == 1) 1 (n - 1)

abbrev pub ahead : ℕ → ℕ → ℕ
ahead n k = cond (k + 1 == n) k (k + 1)

-- the load meets thing number j on stretch number k, its ends included
pub record Collides (h : Hall) (ps : List Place) (k j : ℕ) : Type 0 where
  pub t : ℕ
  pub u : ℕ
  pub some : 0 < t + u
  pub meets : Meets h.load (slice_index_or h.things j []) (between (place ps k) (place ps (ahead (length ps) k)) t u)

-- the first place that isn't right; of no places it is number 0
pub record FirstWrong (h : Hall) (s t : Place) (ps : List Place) (k : ℕ) : Type 0 where
  pub here : (length ps ≡ 0) ⊎ ((k < length ps) × (Right h s t ps k → ⊥))
  pub before : (j : ℕ) → j < k → (j < length ps) × Right h s t ps j

-- all places are right, and this is the first stretch on which the load meets, and on it the first thing
pub record FirstCollision (h : Hall) (s t : Place) (ps : List Place) (k j : ℕ) : Type 0 where
  pub right : (i : ℕ) → i < length ps → Right h s t ps i
  pub stretch : k < stretches (length ps)
  pub thing : j < length h.things
  pub here : Collides h ps k j
  pub on_it : (b : ℕ) → b < j → Collides h ps k b → ⊥
  pub before : (a : ℕ) → a < k → (b : ℕ) → b < length h.things → Collides h ps a b → ⊥

-- what the checker says
abbrev pub Judged : Hall → Place → Place → List Place → Result (Unit {0}) Refusal → Type 0
Judged h s t ps (Ok _) = Drives h s t ps
Judged h s t ps (Err (Waypoint k)) = FirstWrong h s t ps k
Judged h s t ps (Err (Collision k j)) = FirstCollision h s t ps k j
Judged h s t ps (Err Memory) = Unit {0}
Judged h s t ps (Err (Length i)) = ⊥
Judged h s t ps (Err (Number i)) = ⊥
Judged h s t ps (Err (Count i)) = ⊥
Judged h s t ps (Err (Bend i)) = ⊥
Judged h s t ps (Err (Slice l)) = ⊥

-- THE CHECKER IS EXACT: a way that can be driven is never refused
abbrev pub NeverRefused : Type 0
NeverRefused =
    (h : Hall) (s t : Place) (ps : List Place) (e : Refusal) → 0 < s.w → 0 < t.w → ((k : ℕ) → k < length ps → 0 < (place ps k).w) →
    Judged h s t ps (Err e) → Drives h s t ps → e ≡ Memory

-- all places right and no stretch on which the load meets: the way can be driven
abbrev pub DrivesIfClear : Type 0
DrivesIfClear =
    (h : Hall) (s t : Place) (ps : List Place) → 0 < s.w → 0 < t.w → ((k : ℕ) → k < length ps → 0 < (place ps k).w) → 0 < length ps →
    ((i : ℕ) → i < length ps → Right h s t ps i) →
    ((a : ℕ) → a < stretches (length ps) → (b : ℕ) → b < length h.things → Collides h ps a b → ⊥) →
    Drives h s t ps
