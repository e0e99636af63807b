use Rattle.std.proofs.Common.{◌+◌, sym}
use Rattle.jc_view.specs.declared.attribute_kind.Holder.TheVariants as holders
use Rattle.jc_view.specs.Places.{methods_place}
use Rattle.jc_file.proofs.keys.KeysLeft.{length-members, repeated-members}
use Rattle.jc_file.proofs.repeated.add_repeated_methods.Goals as goal

pub add_repeated-requires : goal.add_repeated-requires
add_repeated-requires c =
    rw (length-members c.methods.result c.args.class.now holders.Method (methods_place c.args.class.now + 2) c.args.class.now.methods c.methods.ensures.left) c.methods.ensures.few

pub returns : goal.returns
returns c =
    let e = repeated-members c.methods.result c.args.class.now holders.Method (methods_place c.args.class.now + 2) c.args.class.now.methods c.methods.ensures.left in
    rw (sym e) c.add_repeated.ensures
