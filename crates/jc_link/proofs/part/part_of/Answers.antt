use Rattle.jc_link.proofs.part.part_of.Goals as goal

pub returns-clause-circular : goal.returns-clause-circular
returns-clause-circular c = c.is_circular-circular.ensures

pub returns-clause-load : goal.returns-clause-load
returns-clause-load c = c.in_ok-load.ensures

pub returns-clause-answers : goal.returns-clause-answers
returns-clause-answers c = c.in_ok-linked.ensures.answers
