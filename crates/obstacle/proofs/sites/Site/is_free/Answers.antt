use Rattle.obstacle.proofs.Freely.{free_exactly}
use Rattle.obstacle.proofs.sites.Site.is_free.Goals as goal

pub returns-then-is_within : goal.returns-then-is_within
returns-then-is_within c =
    let x = free_exactly _ _ _ c.self.invariant c.requires.real in
    rw (← c.self.view_is) (
      λ t. x.1 (record { walls = c.is_within.ensures.0 c.if-is_within.true; apart = c.is_apart.ensures.0 t }),
      λ f. c.is_apart.ensures.1 (x.0 f).apart,
    )
