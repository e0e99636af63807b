use Rattle.std.proofs.Common.{◌∙◌, ap, sym}
use Rattle.std.specs.Option.{option_copied}
use Rattle.jc_file.proofs.sets.KeysApart.{key_is}
use Rattle.jc_file.proofs.repeats.short_key.Goals as goal

pub returns : goal.returns
returns c =
    key_is c.args.member.now c.in_ok-name.name c.in_ok-descriptor.descriptor
    (sym c.name.ensures ∙ ap option_copied c.in_ok-name.was)
    (sym c.descriptor.ensures ∙ ap option_copied c.in_ok-descriptor.was)
