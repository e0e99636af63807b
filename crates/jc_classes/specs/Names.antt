-- Names and descriptors as bytes (JVMS 4.2, 4.3), their order, and the packages of classes.
use Rattle.std.specs.Prelude.{ℕ, zero, suc, ◌==◌, Bool, cond, List, [], codes, take, length, map, slice_index_or}
use Rattle.std.specs.declared.vec.Vec.{Vec}
use Rattle.std.specs.declared.alloc.Global.{Global}
use Rattle.std.specs.declared.cmp.Ordering.{Ordering}
use Rattle.std.specs.Ordering.{eq_by_cmp, is_lt}
use Rattle.jc_base.specs.Bytes.{bytes_cmp}

abbrev pub Name : Type 0
Name = List ℕ

abbrev pub name_cmp : Name → Name → Ordering
name_cmp = bytes_cmp

abbrev pub same_name : Name → Name → Bool
same_name a b = eq_by_cmp name_cmp a b

abbrev pub name_less : Name → Name → Bool
name_less a b = is_lt (name_cmp a b)

abbrev pub object : Name
object = codes "java/lang/Object"

abbrev pub method_handle : Name
method_handle = codes "java/lang/invoke/MethodHandle"

-- the descriptor of a signature polymorphic method (JVMS 2.9)
abbrev pub polymorphic_descriptor : Name
polymorphic_descriptor = codes "([Ljava/lang/Object;)Ljava/lang/Object;"

-- the part before the last `/` among the first k bytes, or nothing without a `/`
unfoldable pub package_to : Name → ℕ → Name
package_to n zero = []
package_to n (suc k) = cond (slice_index_or n k 0 == 47) (take k n) (package_to n k)

-- the package of a class: the part of its name before the last `/`, or nothing without a `/` (JVMS 5.3)
abbrev pub package_of : Name → Name
package_of n = package_to n (length n)

-- vectors of bytes as names
abbrev pub names_of : List (Vec ℕ Global) → List Name
names_of vs = map (λ (v : Vec ℕ Global). v.items) vs
