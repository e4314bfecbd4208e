use Rattle.dht_xattr.proofs.PlanLaws.{planned_length, planned_light, planned_valid, planned_once, planned_holder, planned_no_hole, planned_no_overlap, planned_read}
use Rattle.dht_xattr.proofs.plan.a_plan_has_each_hash_once.Goals as goal

pub returns-clause-length : goal.returns-clause-length
returns-clause-length c = planned_length

pub returns-clause-light : goal.returns-clause-light
returns-clause-light c = planned_light

pub returns-clause-valid : goal.returns-clause-valid
returns-clause-valid c = planned_valid

pub returns-clause-once : goal.returns-clause-once
returns-clause-once c = planned_once

pub returns-clause-holder : goal.returns-clause-holder
returns-clause-holder c = planned_holder

pub returns-clause-holes : goal.returns-clause-holes
returns-clause-holes c = planned_no_hole

pub returns-clause-overlaps : goal.returns-clause-overlaps
returns-clause-overlaps c = planned_no_overlap

pub returns-clause-read : goal.returns-clause-read
returns-clause-read c = planned_read
