use Rattle.std.proofs.Common.{rules, arith, refl, ◌∙◌, ◌+◌, length}
use Rattle.cdl_walk.specs.Elements.{indices_at as indices_of}
use Rattle.cdl_walk.specs.Faults.{seen}
use Rattle.cdl_walk.specs.Places.{here, inside}
use Rattle.cdl_walk.proofs.Numbering as number
use Rattle.cdl_walk.proofs.Steps as at
use Rattle.cdl_walk.proofs.walking.+walk.Goals as goal

-- ---- blocks

pub block-returns-in-Err-clause-runs : goal.block-returns-in-Err-clause-runs
block-returns-in-Err-clause-runs t c = at.block_fault c.args.e.now (here c.args.place.now) c.args.class c.args.walked.now (seen c.in-Err.fault) c.in-Err.ensures.takes

pub block-loop-i-init : goal.block-loop-i-init
block-loop-i-init t c = record {
  kept = refl;
  same = c.in-Ok-enter_class.ensures.here;
  numbers = first_of (search rules, cc);
  stand = number.opened_numbers (here c.args.place.now) c.args.class c.args.place.now.numbers.items c.args.walked.now c.opens.new.walked c.in-Ok.ensures.takes c.requires;
  deeper = number.opened_deeper (here c.args.place.now) c.args.class c.args.walked.now c.opens.new.walked c.in-Ok.ensures.takes;
  went = at.block_starts c.args.e.now (here c.args.place.now) c.args.class c.args.walked.now c.opens.new.walked c.in-Ok.ensures.takes;
}

pub block-returns-in-Err-pass_item-clause-runs : goal.block-returns-in-Err-pass_item-clause-runs
block-returns-in-Err-pass_item-clause-runs t c = at.block_stops c.args.e.now c.loop-i.e (here c.args.place.now) (here c.loop-i.place) c.args.class c.loop-i.i c.in-Ok-try_from.number c.items_of-items.result.now c.index-items-i.result c.role_of-role.result
    c.args.walked.now c.loop-i.walked (seen c.in-Err-pass_item.fault) (search rules) c.loop-i-test.true c.index-items-i.is (search rules) (search rules) c.loop-i.invariant.kept c.loop-i.invariant.same c.loop-i.invariant.went c.in-Err-pass_item.ensures.runs

pub block-loop-i-preserved : goal.block-loop-i-preserved
block-loop-i-preserved t c =
    let inner = number.moved_deeper (inside (here c.args.place.now) c.args.class) (here c.loop-i.place) c.args.class c.loop-i.walked.instances c.pass_item.new.walked.instances c.loop-i.invariant.same c.in-Ok-pass_item.ensures.deeper in
    record {
      kept = c.pass_item.ensures.kept ∙ c.loop-i.invariant.kept;
      same = c.in-Ok-pass_item.ensures.same ∙ c.loop-i.invariant.same;
      numbers = c.in-Ok-pass_item.ensures.numbers ∙ c.loop-i.invariant.numbers;
      stand = number.numbers_deeper _ (length c.args.place.now.path.steps + 1) c.args.place.now.path.steps c.loop-i.walked.instances c.pass_item.new.walked.instances c.loop-i.invariant.stand inner;
      deeper = number.deeper_both (length c.args.place.now.path.steps) c.args.walked.now.instances c.loop-i.walked.instances c.pass_item.new.walked.instances c.loop-i.invariant.deeper
          (number.deeper_less (length c.args.place.now.path.steps + 1) (length c.args.place.now.path.steps) c.loop-i.walked.instances c.pass_item.new.walked.instances (omega arith) inner);
      went = at.block_next c.args.e.now c.loop-i.e (here c.args.place.now) (here c.loop-i.place) c.args.class c.loop-i.i c.in-Ok-try_from.number c.items_of-items.result.now c.index-items-i.result c.role_of-role.result
          c.args.walked.now c.loop-i.walked c.pass_item.new.walked (search rules) c.loop-i-test.true c.index-items-i.is (search rules) (search rules) c.loop-i.invariant.kept c.loop-i.invariant.same c.loop-i.invariant.went c.in-Ok-pass_item.ensures.runs;
    }

pub block-returns-clause-same : goal.block-returns-clause-same
block-returns-clause-same t c = c.leave_class.ensures.here (here c.args.place.now) c.args.class c.loop-i.invariant.same

pub block-returns-clause-runs : goal.block-returns-clause-runs
block-returns-clause-runs t c = at.block_all c.args.e.now (here c.args.place.now) c.args.class c.loop-i.i c.items_of-items.result.now c.args.walked.now c.loop-i.walked (search rules) (search rules) c.loop-i.invariant.went

-- ---- items

pub pass_item-returns-in-Value-clause-runs : goal.pass_item-returns-in-Value-clause-runs
pass_item-returns-in-Value-clause-runs t c = at.role_value _ c.args.e.now (here c.args.place.now) c.args.item.now c.args.role c.args.walked.now c.args.walked.now c.pass_value.result
    c.in-Value.is (c.pass_value.ensures.takes c.args.walked.now)

pub pass_item-returns-in-Value-clause-deeper : goal.pass_item-returns-in-Value-clause-deeper
pass_item-returns-in-Value-clause-deeper t c = number.kept_deeper (length c.args.place.now.path.steps + 1) c.args.walked.now.instances c.pass_value.result

pub pass_item-returns-in-Connector-clause-deeper : goal.pass_item-returns-in-Connector-clause-deeper
pass_item-returns-in-Connector-clause-deeper t c =
    number.equal_deeper (length c.args.place.now.path.steps + 1) c.args.walked.now.instances c.pass_connector.new.walked.instances c.pass_connector.result c.pass_connector.ensures.instances

pub pass_item-returns-in-Other-clause-deeper : goal.pass_item-returns-in-Other-clause-deeper
pass_item-returns-in-Other-clause-deeper t c = number.deeper_same (length c.args.place.now.path.steps + 1) c.args.walked.now.instances

pub pass_item-returns-in-Connector-clause-runs : goal.pass_item-returns-in-Connector-clause-runs
pass_item-returns-in-Connector-clause-runs t c = at.role_connector _ c.args.e.now (here c.args.place.now) c.args.item.now c.args.role c.in-Connector.value_type c.in-Connector.input
    c.args.walked.now c.pass_connector.new.walked c.pass_connector.result c.in-Connector.is c.pass_connector.ensures.takes

pub pass_item-returns-in-Other-clause-runs : goal.pass_item-returns-in-Other-clause-runs
pass_item-returns-in-Other-clause-runs t c = at.role_other c.args.e.now (here c.args.place.now) c.args.item.now c.args.role c.args.walked.now c.in-Other.is

-- ---- components

pub component-returns-in-Err-clause-runs : goal.component-returns-in-Err-clause-runs
component-returns-in-Err-clause-runs t c = at.component_fault c.args.e.now (here c.args.place.now) c.args.item.now c.args.part c.args.walked.now c.in-Err.fault c.in-Err.ensures.tells

pub component-loop-x-init : goal.component-loop-x-init
component-loop-x-init t c = record {
  kept = c.sizes_of.ensures.kept;
  same = refl;
  numbers = refl;
  deeper = number.deeper_same (length c.args.place.now.path.steps + 1) c.args.walked.now.instances;
  went = at.component_starts c.args.e.now (here c.args.place.now) c.args.item.now c.args.part c.in-Ok.sizes c.args.walked.now c.in-Ok.ensures.tells;
}

pub component-returns-in-Err-element-clause-runs : goal.component-returns-in-Err-element-clause-runs
component-returns-in-Err-element-clause-runs t c = at.sized_stops c.args.e.now c.loop-x.e (here c.args.place.now) (here c.loop-x.place) c.args.item.now c.args.part c.in-Ok.sizes c.items-in-loop-x.result.now c.loop-x.x
    c.args.walked.now c.loop-x.walked (seen c.in-Err-element.fault) c.in-Ok.ensures.tells (search rules) (search rules) c.loop-x.invariant.kept c.loop-x.invariant.same c.loop-x.invariant.went c.in-Err-element.ensures.runs

pub component-loop-x-preserved : goal.component-loop-x-preserved
component-loop-x-preserved t c =
    let inner = number.moved_deeper (here c.args.place.now) (here c.loop-x.place) (record { index = 0 }) c.loop-x.walked.instances c.element.new.walked.instances c.loop-x.invariant.same c.in-Ok-element.ensures.deeper in
    record {
      kept = c.element.ensures.kept ∙ c.loop-x.invariant.kept;
      same = c.in-Ok-element.ensures.same ∙ c.loop-x.invariant.same;
      numbers = c.in-Ok-element.ensures.numbers ∙ c.loop-x.invariant.numbers;
      deeper = number.deeper_both (length c.args.place.now.path.steps + 1) c.args.walked.now.instances c.loop-x.walked.instances c.element.new.walked.instances c.loop-x.invariant.deeper inner;
      went = at.sized_next c.args.e.now c.loop-x.e (here c.args.place.now) (here c.loop-x.place) c.args.item.now c.args.part c.in-Ok.sizes c.items-in-loop-x.result.now c.loop-x.x
          c.args.walked.now c.loop-x.walked c.element.new.walked c.in-Ok.ensures.tells (search rules) (search rules) c.loop-x.invariant.kept c.loop-x.invariant.same c.loop-x.invariant.went c.in-Ok-element.ensures.runs;
    }

-- ---- elements

pub element-returns-in-Err-instance-clause-runs : goal.element-returns-in-Err-instance-clause-runs
element-returns-in-Err-instance-clause-runs t c = at.entered_stops c.args.e.now (here c.enter.new.place) (here c.args.place.now) c.args.item.now c.args.part c.in-Ok.indices (indices_of c.args.sizes.now c.args.x) c.args.walked.now (seen c.in-Err-instance.fault)
    c.in-Ok-enter.ensures.here c.in-Ok.ensures c.in-Err-instance.ensures.runs

pub element-returns-clause-same : goal.element-returns-clause-same
element-returns-clause-same t c = c.leave.ensures.here (here c.args.place.now) c.args.item.now c.in-Ok.indices (c.in-Ok-instance.ensures.same ∙ c.in-Ok-enter.ensures.here)

pub element-returns-clause-deeper : goal.element-returns-clause-deeper
element-returns-clause-deeper t c = number.entered_deeper (here c.args.place.now) (here c.enter.new.place) c.args.item.now c.in-Ok.indices c.args.walked.now.instances c.instance.new.walked.instances
    c.in-Ok-enter.ensures.here c.in-Ok-instance.ensures.deeper

pub instance-returns-in-Block-clause-runs : goal.instance-returns-in-Block-clause-runs
instance-returns-in-Block-clause-runs t c = at.part_block _ c.args.e.now (here c.args.place.now) c.args.part c.in-Block.class c.args.walked.now c.block.new.walked c.block.result c.in-Block.is c.block.ensures.runs

pub instance-returns-in-Kind-clause-runs : goal.instance-returns-in-Kind-clause-runs
instance-returns-in-Kind-clause-runs t c = at.part_kind _ c.args.e.now (here c.args.place.now) c.args.part c.in-Kind.kind c.args.walked.now c.kind_instance.new.walked c.kind_instance.result c.in-Kind.is c.kind_instance.ensures.runs
