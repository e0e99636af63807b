use Rattle.std.proofs.Common.{◌≡◌, ◌∙◌, None, Some, cond, unwrap_or, ap, sym}
use Rattle.std.specs.Option.{option_copied}
use Rattle.std.proofs.lemmas.Map.Text.{btree_map_updates_str}
use Rattle.jc_base.specs.Bytes.{same_bytes}
use Rattle.jc_file.specs.inside.TextNumbers.{number_in}
use Rattle.jc_file.proofs.text_numbers.number_text.Goals as goal

pub returns-clause-ok : goal.returns-clause-ok
returns-clause-ok c = λ q.
    let none : number_in c.args.numbers.now c.args.text.now ≡ None = sym c.get.ensures.value ∙ ap option_copied c.in_default.is in
    btree_map_updates_str c.args.text.now c.args.numbers.now c.insert.new.self (Some c.args.number) c.in_ok-insert.ensures.updates q
    ∙ ap (λ o. cond (same_bytes c.args.text.now q) (Some (unwrap_or o c.args.number)) (number_in c.args.numbers.now q)) (sym none)
