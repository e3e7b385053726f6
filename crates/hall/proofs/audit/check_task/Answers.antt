use Rattle.std.proofs.Common.{◌≡◌, ◌∙◌}
use Rattle.hall.proofs.Faults.{some_then, later, tells_second, exits}
use Rattle.hall.specs.Format.{task_fault}
use Rattle.hall.proofs.Layouts.{faults_at, task_fault_at}
use Rattle.hall.proofs.audit.check_task.Goals as goal
use Rattle.hall.proofs.audit.check_task.Goals.{After-lay_out-layout}

-- the faults of the definition, by where the code found the parts
laid : (c : After-lay_out-layout) → task_fault c.args.bytes.now ≡ faults_at c.args.bytes.now c.lay_out-layout.result.count_from c.lay_out-layout.result.things c.lay_out-layout.result.start_from
laid c = let g = c.lay_out-layout.ensures in task_fault_at c.args.bytes.now _ _ _ g.count_from g.things g.start_from

pub returns-in_err-demand : goal.returns-in_err-demand
returns-in_err-demand c =
    exits _ _ _ c.from_residual.ensures.1
    (laid (goal.at.returns-in_err-demand c).After-lay_out-layout
    ∙ some_then _ _ _ c.in_err-demand.ensures)

pub returns-in_err-check_wall : goal.returns-in_err-check_wall
returns-in_err-check_wall c =
    exits _ _ _ c.from_residual-in_err-check_wall.ensures.1
    (laid (goal.at.returns-in_err-check_wall c).After-lay_out-layout
    ∙ later _ _ _ c.in_ok-demand.ensures (some_then _ _ _ c.in_err-check_wall.ensures))

pub returns-in_err-check_wall-2 : goal.returns-in_err-check_wall-2
returns-in_err-check_wall-2 c =
    exits _ _ _ c.from_residual-in_err-check_wall-2.ensures.1
    (laid (goal.at.returns-in_err-check_wall-2 c).After-lay_out-layout
    ∙ later _ _ _ c.in_ok-demand.ensures (later _ _ _ c.in_ok-check_wall.ensures (some_then _ _ _ c.in_err-check_wall-2.ensures)))

pub returns-in_err-check_shape : goal.returns-in_err-check_shape
returns-in_err-check_shape c =
    exits _ _ _ c.from_residual-in_err-check_shape.ensures.1
    (laid (goal.at.returns-in_err-check_shape c).After-lay_out-layout
    ∙ later _ _ _ c.in_ok-demand.ensures (later _ _ _ c.in_ok-check_wall.ensures (later _ _ _ c.in_ok-check_wall-2.ensures (some_then _ _ _ c.in_err-check_shape.ensures))))

pub returns-in_err-check_thing_count : goal.returns-in_err-check_thing_count
returns-in_err-check_thing_count c =
    exits _ _ _ c.from_residual-in_err-check_thing_count.ensures.1
    (laid (goal.at.returns-in_err-check_thing_count c).After-lay_out-layout
    ∙ later _ _ _ c.in_ok-demand.ensures (later _ _ _ c.in_ok-check_wall.ensures (later _ _ _ c.in_ok-check_wall-2.ensures (later _ _ _ c.in_ok-check_shape.ensures (some_then _ _ _ c.in_err-check_thing_count.ensures)))))

pub returns-in_err-check_things : goal.returns-in_err-check_things
returns-in_err-check_things c =
    exits _ _ _ c.from_residual-in_err-check_things.ensures.1
    (laid (goal.at.returns-in_err-check_things c).After-lay_out-layout
    ∙ later _ _ _ c.in_ok-demand.ensures (later _ _ _ c.in_ok-check_wall.ensures (later _ _ _ c.in_ok-check_wall-2.ensures (later _ _ _ c.in_ok-check_shape.ensures (later _ _ _ c.in_ok-check_thing_count.ensures (some_then _ _ _ (simp c.lay_out-layout.ensures.bytes at c.in_err-check_things.ensures)))))))

pub returns-in_err-check_place : goal.returns-in_err-check_place
returns-in_err-check_place c =
    exits _ _ _ c.from_residual-in_err-check_place.ensures.1
    (laid (goal.at.returns-in_err-check_place c).After-lay_out-layout
    ∙ later _ _ _ c.in_ok-demand.ensures (later _ _ _ c.in_ok-check_wall.ensures (later _ _ _ c.in_ok-check_wall-2.ensures (later _ _ _ c.in_ok-check_shape.ensures (later _ _ _ c.in_ok-check_thing_count.ensures (later _ _ _ (simp c.lay_out-layout.ensures.bytes at c.in_ok-check_things.ensures) (some_then _ _ _ c.in_err-check_place.ensures)))))))

pub returns-in_err-check_place-2 : goal.returns-in_err-check_place-2
returns-in_err-check_place-2 c =
    exits _ _ _ c.from_residual-in_err-check_place-2.ensures.1
    (laid (goal.at.returns-in_err-check_place-2 c).After-lay_out-layout
    ∙ later _ _ _ c.in_ok-demand.ensures (later _ _ _ c.in_ok-check_wall.ensures (later _ _ _ c.in_ok-check_wall-2.ensures (later _ _ _ c.in_ok-check_shape.ensures (later _ _ _ c.in_ok-check_thing_count.ensures (later _ _ _ (simp c.lay_out-layout.ensures.bytes at c.in_ok-check_things.ensures) (later _ _ _ c.in_ok-check_place.ensures (some_then _ _ _ c.in_err-check_place-2.ensures))))))))

pub returns : goal.returns
returns c =
    rw (laid (goal.at.returns c).After-lay_out-layout)
    (tells_second _ _ _ c.in_ok-demand.ensures (tells_second _ _ _ c.in_ok-check_wall.ensures (tells_second _ _ _ c.in_ok-check_wall-2.ensures (tells_second _ _ _ c.in_ok-check_shape.ensures (tells_second _ _ _ c.in_ok-check_thing_count.ensures (tells_second _ _ _ (simp c.lay_out-layout.ensures.bytes at c.in_ok-check_things.ensures) (tells_second _ _ _ c.in_ok-check_place.ensures (tells_second _ _ _ c.in_ok-check_place-2.ensures c.demand-2.ensures))))))))
