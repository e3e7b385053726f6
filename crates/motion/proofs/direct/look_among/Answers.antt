use Rattle.hall.proofs.Drawings.{holds, bounded_from}
use Rattle.std.proofs.lemmas.Bool.Decides.{not_from_Decides}
use Rattle.motion.proofs.DirectLook.{way_start, way_end, one_stretch, straight_if_passes, bent_if_enters, small_bounded, small_near}
use Rattle.motion.proofs.direct.look_among.Goals as goal

pub is_free-requires : goal.is_free-requires
is_free-requires c = small_near c.start-start.result c.start-start.ensures.bound

pub is_free-requires-2 : goal.is_free-requires-2
is_free-requires-2 c = small_near c.goal-goal.result c.goal-goal.ensures.bound

pub invariant_of-stretch : goal.invariant_of-stretch
invariant_of-stretch c =
    record { near = (holds (bounded_from _ _ (small_bounded c.start-start.result c.start-start.ensures.bound)), holds (bounded_from _ _ (small_bounded c.goal-goal.result c.goal-goal.ensures.bound))) }

pub returns-then-not-is_free : goal.returns-then-not-is_free
returns-then-not-is_free c =
    let n = not_from_Decides c.is_free.result c.is_free.ensures c.if-not-is_free.true in
    rw (← c.site.view_is) (λ ps a. rw (← c.site.view_is, c.start-start.ensures.value) at n (way_start _ _ _ ps a))

pub returns-then-not-is_free-2 : goal.returns-then-not-is_free-2
returns-then-not-is_free-2 c =
    let n = not_from_Decides c.is_free-2.result c.is_free-2.ensures c.if-not-is_free-2.true in
    rw (← c.site.view_is) (λ ps a. rw (← c.site.view_is, c.goal-goal.ensures.value) at n (way_end _ _ _ ps a))

pub returns-in-Some : goal.returns-in-Some
returns-in-Some c =
    let a = rw (← c.site.view_is, c.start-start.ensures.value) at (c.is_free.ensures.0 c.if-not-is_free.false) in
    let b = rw (← c.site.view_is, c.goal-goal.ensures.value) at (c.is_free-2.ensures.0 c.if-not-is_free-2.false) in
    let e = rw (c.start-start.ensures.value, c.goal-goal.ensures.value) at c.in-Some.ensures in
    rw (← c.site.view_is) (a, b, bent_if_enters _ _ c.site.invariant _ _ a b c.in-Some.field-0 e)

pub returns-in-None : goal.returns-in-None
returns-in-None c =
    let a = rw (← c.site.view_is, c.start-start.ensures.value) at (c.is_free.ensures.0 c.if-not-is_free.false) in
    let b = rw (← c.site.view_is, c.goal-goal.ensures.value) at (c.is_free-2.ensures.0 c.if-not-is_free-2.false) in
    let p = rw (c.start-start.ensures.value, c.goal-goal.ensures.value) at c.in-None.ensures in
    rw (← c.site.view_is) (one_stretch _ _ _ (straight_if_passes _ _ c.site.invariant _ _ a b p))
