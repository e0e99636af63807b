use Rattle.std.proofs.Common.{◌∙◌}
use Rattle.jc_classes.proofs.read_facts.code_facts.Goals as goal

pub returns-clause-uses : goal.returns-clause-uses
returns-clause-uses c = c.in_ok-codes.ensures.uses

pub returns-clause-users : goal.returns-clause-users
returns-clause-users c = c.in_ok-users.ensures

pub returns-clause-format : goal.returns-clause-format
returns-clause-format c = c.in_ok-faults.ensures.format ∙ c.new.ensures.items

pub returns-clause-faults : goal.returns-clause-faults
returns-clause-faults c = c.in_ok-faults.ensures.code ∙ c.in_ok-codes.ensures.faults
