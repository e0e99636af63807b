use Rattle.std.proofs.Common.{subst, sym}
use Rattle.jc_session.specs.Checks.{ChecksAs}
use Rattle.jc_session.specs.LentChecks.{check_lent}
use Rattle.jc_session.proofs.tree_check.check.Goals as goal

pub returns-clause-checks : goal.returns-clause-checks
returns-clause-checks g c =
    let read = c.in_ok-tree.ensures in (
      read.0,
      read.1,
      subst (λ files. ChecksAs c.args.outside.now c.args.form.now files (check_lent c.check_tree.result) (g.W.Output.written c.args.out.now) (g.W.Output.written c.check_tree.new.out)) (sym read.2.1)
          (c.check_tree.ensures.tells read.2.0 read.2.2),
    )
