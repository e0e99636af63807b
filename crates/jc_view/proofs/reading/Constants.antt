-- A constant that is read is the constant that was spelled, and what was spelled is read again.
use Rattle.std.proofs.Common.{◌≡◌, ℕ, List, ◌++◌, Some, refl, ap}
use Rattle.jc_base.proofs.Common.{same_pair}
use Rattle.jc_view.specs.declared.constant_pool.ConstantIndex.{ConstantIndex}
use Rattle.jc_view.specs.declared.constant_pool.ConstantKind.{ConstantKind}
use Rattle.jc_view.specs.declared.constant_pool.ConstantKind.TheVariants as kinds
use Rattle.jc_view.specs.ConstantPool as pool
use Rattle.jc_view.specs.ConstantPool.{Constant, kind_of, body_bytes, FitsConstant}
use Rattle.jc_view.specs.Reading.{after_body, body_value}
use Rattle.jc_view.proofs.reading.BigEndian.{IsBytes, width1, width2, width4, width8, Takes, takes_number, again_number, takes_two, again_two, takes_sized, again_sized}

-- what the body of a kind takes
pub record TakesBody (kind : ConstantKind) (xs rest : List ℕ) : Type 0 where
  pub takes : Takes xs (body_bytes (body_value kind xs)) rest
  pub fits : FitsConstant (body_value kind xs)
  pub same : kind_of (body_value kind xs) ≡ kind

pub body_takes : (kind : ConstantKind) (xs rest : List ℕ) → IsBytes xs → after_body kind xs ≡ Some rest → TakesBody kind xs rest
body_takes kinds.Utf8 xs rest fits e = let t = takes_sized 2 width2 xs rest fits e in record { takes = t.0; fits = t.1; same = refl }
body_takes kinds.Integer xs rest fits e = let t = takes_number 4 width4 xs rest fits e in record { takes = t.0; fits = t.1; same = refl }
body_takes kinds.Float xs rest fits e = let t = takes_number 4 width4 xs rest fits e in record { takes = t.0; fits = t.1; same = refl }
body_takes kinds.Long xs rest fits e = let t = takes_number 8 width8 xs rest fits e in record { takes = t.0; fits = t.1; same = refl }
body_takes kinds.Double xs rest fits e = let t = takes_number 8 width8 xs rest fits e in record { takes = t.0; fits = t.1; same = refl }
body_takes kinds.Class xs rest fits e = let t = takes_number 2 width2 xs rest fits e in record { takes = t.0; fits = t.1; same = refl }
body_takes kinds.String xs rest fits e = let t = takes_number 2 width2 xs rest fits e in record { takes = t.0; fits = t.1; same = refl }
body_takes kinds.Fieldref xs rest fits e = let t = takes_two 2 2 width2 width2 xs rest fits e in record { takes = t.0; fits = (t.1, t.2); same = refl }
body_takes kinds.Methodref xs rest fits e = let t = takes_two 2 2 width2 width2 xs rest fits e in record { takes = t.0; fits = (t.1, t.2); same = refl }
body_takes kinds.InterfaceMethodref xs rest fits e = let t = takes_two 2 2 width2 width2 xs rest fits e in record { takes = t.0; fits = (t.1, t.2); same = refl }
body_takes kinds.NameAndType xs rest fits e = let t = takes_two 2 2 width2 width2 xs rest fits e in record { takes = t.0; fits = (t.1, t.2); same = refl }
body_takes kinds.MethodHandle xs rest fits e = let t = takes_two 1 2 width1 width2 xs rest fits e in record { takes = t.0; fits = (t.1, t.2); same = refl }
body_takes kinds.MethodType xs rest fits e = let t = takes_number 2 width2 xs rest fits e in record { takes = t.0; fits = t.1; same = refl }
body_takes kinds.InvokeDynamic xs rest fits e = let t = takes_two 2 2 width2 width2 xs rest fits e in record { takes = t.0; fits = (t.1, t.2); same = refl }

-- a body that stands at the front is read again
pub record IsAgain (constant : Constant) (rest : List ℕ) : Type 0 where
  pub left : after_body (kind_of constant) (body_bytes constant ++ rest) ≡ Some rest
  pub value : body_value (kind_of constant) (body_bytes constant ++ rest) ≡ constant

index_of : ℕ → ConstantIndex
index_of n = record { 0 = n }

pub body_again : (constant : Constant) (rest : List ℕ) → FitsConstant constant → IsAgain constant rest
unfolding index_of
body_again (pool.Utf8 text) rest fits = let a = again_sized 2 text rest fits in record { left = a.0; value = ap (λ (t : List ℕ). pool.Utf8 t) a.1 }
body_again (pool.Integer bits) rest fits = let a = again_number 4 bits rest fits in record { left = a.0; value = ap (λ (n : ℕ). pool.Integer n) a.1 }
body_again (pool.Float bits) rest fits = let a = again_number 4 bits rest fits in record { left = a.0; value = ap (λ (n : ℕ). pool.Float n) a.1 }
body_again (pool.Long bits) rest fits = let a = again_number 8 bits rest fits in record { left = a.0; value = ap (λ (n : ℕ). pool.Long n) a.1 }
body_again (pool.Double bits) rest fits = let a = again_number 8 bits rest fits in record { left = a.0; value = ap (λ (n : ℕ). pool.Double n) a.1 }
body_again (pool.Class name) rest fits = let a = again_number 2 name.0 rest fits in record { left = a.0; value = ap (λ (n : ℕ). pool.Class (index_of n)) a.1 }
body_again (pool.String text) rest fits = let a = again_number 2 text.0 rest fits in record { left = a.0; value = ap (λ (n : ℕ). pool.String (index_of n)) a.1 }
body_again (pool.Fieldref c n) rest fits = let a = again_two 2 2 c.0 n.0 rest fits.0 fits.1 in record { left = a.0; value = ap (λ (p : ℕ × ℕ). pool.Fieldref (index_of p.0) (index_of p.1)) (same_pair a.1 a.2) }
body_again (pool.Methodref c n) rest fits = let a = again_two 2 2 c.0 n.0 rest fits.0 fits.1 in record { left = a.0; value = ap (λ (p : ℕ × ℕ). pool.Methodref (index_of p.0) (index_of p.1)) (same_pair a.1 a.2) }
body_again (pool.InterfaceMethodref c n) rest fits = let a = again_two 2 2 c.0 n.0 rest fits.0 fits.1 in record { left = a.0; value = ap (λ (p : ℕ × ℕ). pool.InterfaceMethodref (index_of p.0) (index_of p.1)) (same_pair a.1 a.2) }
body_again (pool.NameAndType n d) rest fits = let a = again_two 2 2 n.0 d.0 rest fits.0 fits.1 in record { left = a.0; value = ap (λ (p : ℕ × ℕ). pool.NameAndType (index_of p.0) (index_of p.1)) (same_pair a.1 a.2) }
body_again (pool.MethodHandle k r) rest fits = let a = again_two 1 2 k r.0 rest fits.0 fits.1 in record { left = a.0; value = ap (λ (p : ℕ × ℕ). pool.MethodHandle p.0 (index_of p.1)) (same_pair a.1 a.2) }
body_again (pool.MethodType d) rest fits = let a = again_number 2 d.0 rest fits in record { left = a.0; value = ap (λ (n : ℕ). pool.MethodType (index_of n)) a.1 }
body_again (pool.InvokeDynamic b n) rest fits = let a = again_two 2 2 b n.0 rest fits.0 fits.1 in record { left = a.0; value = ap (λ (p : ℕ × ℕ). pool.InvokeDynamic p.0 (index_of p.1)) (same_pair a.1 a.2) }
