use Rattle.std.proofs.Common.{◌+◌, sym}
use Rattle.jc_view.specs.declared.attribute_kind.Holder.TheVariants as holders
use Rattle.jc_view.specs.Places.{fields_place}
use Rattle.jc_file.proofs.keys.KeysLeft.{length-members, repeated-members}
use Rattle.jc_file.proofs.repeated.add_repeated_fields.Goals as goal

pub add_repeated-requires : goal.add_repeated-requires
add_repeated-requires c =
    rw (length-members c.fields.result c.args.class.now holders.Field (fields_place c.args.class.now + 2) c.args.class.now.fields c.fields.ensures.left) c.fields.ensures.few

pub returns : goal.returns
returns c =
    let e = repeated-members c.fields.result c.args.class.now holders.Field (fields_place c.args.class.now + 2) c.args.class.now.fields c.fields.ensures.left in
    rw (sym e) c.add_repeated.ensures
