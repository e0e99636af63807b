use Rattle.jc_base.proofs.grammar.Stack.{stack_step, no_top}
use Rattle.jc_base.proofs.signatures.next_step.Goals as goal

pub returns-in_err-entry : goal.returns-in_err-entry
returns-in_err-entry c = rw c.from_residual.ensures (no_top c.args.kind c.args.stack.now.items c.next_entry.new.stack.items c.args.text.now c.requires c.in_err-entry.ensures)

pub returns : goal.returns
returns c = stack_step c.args.kind c.args.stack.now.items c.next_entry.new.stack.items c.args.text.now c.in_ok-entry.entry c.advance.result c.requires c.in_ok-entry.ensures c.advance.ensures
