use Rattle.std.proofs.Common.{◌≡◌, ◌⊎◌, true, false, arith}
use Rattle.std.proofs.lemmas.Bool.{not-true, not_from_false, false_from_ne_true}
use Rattle.jc_base.proofs.texts.Names.{name_stop_ways, name_stop_from}
use Rattle.jc_base.proofs.names.is_name_byte.Goals as goal

pub returns : goal.returns
returns c =
    let b = c.args.byte.now in
    let m = c.match-matches.matches in
    let stops : m ≡ true → (b ≡ 46) ⊎ ((b ≡ 47) ⊎ ((b ≡ 59) ⊎ (b ≡ 91))) = λ e. grind arith in
    let passes : m ≡ false → (b ≡ 46) ⊎ ((b ≡ 47) ⊎ ((b ≡ 59) ⊎ (b ≡ 91))) → ⊥ = λ e h. grind arith in (
      λ yes stop. passes (not-true m yes) (name_stop_ways b stop),
      λ none. not_from_false m (false_from_ne_true m (λ e. none (name_stop_from b (stops e)))),
    )
