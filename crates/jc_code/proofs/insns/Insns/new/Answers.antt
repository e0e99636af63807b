use Rattle.std.proofs.Common.{◌≡◌, ℕ, List, sym, subst, arith}
use Rattle.jc_base.specs.Cursor.{Reading}
use Rattle.jc_code.specs.Insns.{IsCode}
use Rattle.jc_code.specs.InsnReading.{insns_from, end_from}
use Rattle.jc_code.proofs.decoding.Standing.{code_is_read}
use Rattle.jc_code.proofs.insns.Insns.new.Goals as goal

reading_is : (place : ℕ) (rest : List ℕ) (p : ℕ) (xs : List ℕ) → place ≡ p → rest ≡ xs → ◌≡◌ {A = Reading} (record { place = place; rest = rest }) (record { place = p; rest = xs })
reading_is place rest p xs e f i = record { place = e i; rest = f i }

pub returns-clause-code : goal.returns-clause-code
returns-clause-code c =
    let code = c.args.code.now in
    let start = reading_is c.new.result.place c.new.result.rest 0 code c.new.ensures.place c.new.ensures.rest in
    subst (λ (r : Reading). IsCode code (insns_from r.place r.rest) (end_from r.place r.rest)) (sym start) (code_is_read code (λ i. omega (arith, c.type_inv.code i)))
