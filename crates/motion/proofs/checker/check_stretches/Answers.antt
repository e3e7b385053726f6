use Rattle.std.proofs.Common.{ℕ, map, length, [], ◌∷◌, ap, arith, rules, below_more, length-append}
use Rattle.hall.specs.declared.refusals.Refusal.TheVariants.{Collision}
use Rattle.hall.specs.Shapes.{shape_of}
use Rattle.hall.proofs.Drawings.{holds, bounded_from}
use Rattle.algebra.specs.Hall.{Place}
use Rattle.std.proofs.lemmas.Iterator.{YieldsList-from_slice, YieldsList-from_zip}
use Rattle.std.proofs.lemmas.Iterator.Consumers.{YieldsList-from_enumerate}
use Rattle.motion.specs.Checking.{StretchPasses, PassesAll, EntersFirst}
use Rattle.motion.proofs.Stepping.{turn, finished, at_turn, near_from, near_to}
use Rattle.motion.proofs.checker.check_stretches.Goals as goal

pub loop-stretch-init : goal.loop-stretch-init
loop-stretch-init c =
    record {
      next = search rules;
      finite = search rules;
      along = record { ends = c.stretch_ends.result.now; count = c.stretch_ends.ensures.count; each = c.stretch_ends.ensures.each; road = YieldsList-from_enumerate (YieldsList-from_zip (YieldsList-from_slice c.args.places.now cc) (YieldsList-from_slice c.stretch_ends.result.now cc)) cc };
      passed = λ a l. absurd (omega arith);
    }

pub invariant_of-first_met : goal.invariant_of-first_met
invariant_of-first_met c =
    let t = turn _ _ c.loop-stretch.invariant.along _ c.loop-stretch.stretch-iterator c.loop-stretch.yielded_by _ c.next.new.self _ _ _ c.in-Some.is c.next.ensures.steps in
    record { near = (holds (bounded_from _ _ (near_from _ _ _ _ _ _ c.requires t)), holds (bounded_from _ _ (near_to _ _ _ _ _ _ c.requires t))) }

pub loop-stretch-preserved : goal.loop-stretch-preserved
unfolding StretchPasses
loop-stretch-preserved c =
    let t = turn _ _ c.loop-stretch.invariant.along _ c.loop-stretch.stretch-iterator c.loop-stretch.yielded_by _ c.next.new.self _ _ _ c.in-Some.is c.next.ensures.steps in
    record {
      next = search rules;
      finite = search rules;
      along = c.loop-stretch.invariant.along;
      passed = λ a l. below_more _ _ c.loop-stretch.invariant.passed (at_turn (PassesAll (map shape_of c.args.obstacles.now)) _ _ _ _ _ t c.in_default.ensures) a (omega (arith, length-append c.loop-stretch.yielded ((c.in-Some.stretch, (c.in-Some.from, c.in-Some.to)) ∷ [])));
    }

pub returns-in-loop-stretch : goal.returns-in-loop-stretch
returns-in-loop-stretch c =
    let t = turn _ _ c.loop-stretch.invariant.along _ c.loop-stretch.stretch-iterator c.loop-stretch.yielded_by _ c.next.new.self _ _ _ c.in-Some.is c.next.ensures.steps in
    let j = c.in-Some-first_met.thing in
    record {
      k = length c.loop-stretch.yielded;
      within = t.within;
      here = record {
        j = j;
        is = ap (λ (k : ℕ). Collision k j) t.number;
        first = at_turn (λ (p q : Place). EntersFirst (map shape_of c.args.obstacles.now) p q j) _ _ _ _ _ t c.in-Some-first_met.ensures;
      };
      before = c.loop-stretch.invariant.passed;
    }

pub returns : goal.returns
returns c =
    let e = finished _ _ c.loop-stretch.invariant.along _ c.loop-stretch.stretch-iterator c.loop-stretch.yielded_by _ c.next.new.self c.in-None.is c.next.ensures.steps in
    λ a l. c.loop-stretch.invariant.passed a (omega (arith, e))
