use Rattle.std.proofs.lemmas.Result.{IfOk-weaker}
use Rattle.jc_code.proofs.methods.MethodsPassed.{method_given, none_given, no_faults, faults_of_given}
use Rattle.jc_code.proofs.faults.list_method_faults.Goals as goal

pub list_member_faults-requires-clause-class : goal.list_member_faults-requires-clause-class
list_member_faults-requires-clause-class c =
    let is = method_given c.args.class.now c.args.method c.methods.result c.nth.new.self c.methods.ensures.left c.nth.result c.in-Some.member c.in-Some.is c.nth.ensures.ran in
    is.class

pub list_member_faults-requires-clause-holder : goal.list_member_faults-requires-clause-holder
list_member_faults-requires-clause-holder c =
    let is = method_given c.args.class.now c.args.method c.methods.result c.nth.new.self c.methods.ensures.left c.nth.result c.in-Some.member c.in-Some.is c.nth.ensures.ran in
    is.holder

pub returns-in-Some : goal.returns-in-Some
returns-in-Some c =
    let is = method_given c.args.class.now c.args.method c.methods.result c.nth.new.self c.methods.ensures.left c.nth.result c.in-Some.member c.in-Some.is c.nth.ensures.ran in
    IfOk-weaker c.list_member_faults.result _ _ (λ found are. faults_of_given c.args.class.now c.args.method c.in-Some.member found.items is are) c.list_member_faults.ensures

pub returns-in-None : goal.returns-in-None
returns-in-None c =
    let none = none_given c.args.class.now c.args.method c.methods.result c.nth.new.self c.methods.ensures.left c.nth.result c.in-None.is c.nth.ensures.ran in
    no_faults c.args.class.now c.args.method c.new.result.items none c.new.ensures.items
