use Rattle.std.proofs.Common.{refl}
use Rattle.jc_numbered.specs.inside.Indexed.{indexed_name}
use Rattle.jc_numbered.specs.inside.Shown.{indexed_of}
use Rattle.jc_resolve.specs.inside.Naming.{IsNumberOf, IsToldBy}
use Rattle.jc_resolve.proofs.answering.Numbers.{own_number}
use Rattle.jc_resolve.proofs.lookups.IfOks.{if_ok_map}
use Rattle.jc_resolve.proofs.answer_list.Naming.number.Goals as goal

pub returns-then-is_own-clause-number : goal.returns-then-is_own-clause-number
returns-then-is_own-clause-number c =
    own_number (indexed_name (indexed_of c.args.classes.now)) c.args.self.now.texts c.args.own c.args.node 0 (c.if-is_own.ensures refl) refl

pub returns-clause-number : goal.returns-clause-number
returns-clause-number c =
    let name = indexed_name (indexed_of c.args.classes.now) in
    let texts = c.listed.new.self.texts in
    if_ok_map c.listed.result (IsNumberOf texts (name c.args.node)) (IsToldBy name texts c.args.own c.args.node) (λ number told r named. told r) c.listed.ensures.number
