use Rattle.jc_classes.proofs.using.FirstUsers.{one_seen, sets_alone, sets_owner}
use Rattle.jc_classes.proofs.first_users.FirstUsers.add_name.Goals as goal

pub returns-in-Some-clause-seen : goal.returns-in-Some-clause-seen
returns-in-Some-clause-seen c =
    let class = c.args.class.now in
    one_seen class c.args.index c.args.method c.args.self.now _ c.requires c.mark.ensures
    (sets_owner class c.args.index c.in-Some.class_index c.args.method _ _ _ c.in-Some.ensures c.set_first.ensures c.set_first-in-Some.ensures)

pub returns-in_default-clause-seen : goal.returns-in_default-clause-seen
returns-in_default-clause-seen c =
    let class = c.args.class.now in
    one_seen class c.args.index c.args.method c.args.self.now _ c.requires c.mark.ensures
    (sets_alone class c.args.index c.args.method _ _ c.in_default.ensures c.set_first.ensures)
