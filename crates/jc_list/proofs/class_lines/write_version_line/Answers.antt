use Rattle.std.proofs.Common.{◌++◌, ap, codes, decimal}
use Rattle.jc_text.proofs.Sending.{◌⟫◌, sends_equal}
use Rattle.jc_list.proofs.fronts.OneBehindAnother.{both_behind}
use Rattle.jc_list.proofs.class_lines.write_version_line.Goals as goal

pub returns : goal.returns
returns g c =
    let version = c.version-version.ensures in
    let major = sends_equal (ap (λ n. codes "version " ++ decimal n) version.major) c.write_number_behind.ensures in
    both_behind (codes ".") (decimal c.args.class.now.minor) major (sends_equal (ap (λ n. codes "." ++ decimal n) version.minor) c.write_number_behind-2.ensures) ⟫ c.text.ensures
