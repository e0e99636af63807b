use Rattle.std.proofs.Common.{T, sym, ap, subst, ◌∙◌, eq-eqb, eqb→eq}
use Rattle.std.specs.FinMap as fin
use Rattle.jc_base.specs.Bytes.{bytes_cmp}
use Rattle.jc_base.proofs.byte_map.ByteMap.is_empty.Goals as goal

pub returns : goal.returns
returns g c = (
  λ h. fin.empty_of_len c.args.self.now (sym c.len.ensures.len ∙ eqb→eq _ _ (subst T (sym h) tt)),
  λ h. eq-eqb c.len.result 0 (c.len.ensures.len ∙ ap fin.len h ∙ fin.len-empty bytes_cmp g.row.V.Denot),
)
