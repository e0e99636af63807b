-- The attributes of a member, counted by kind.
use Rattle.std.specs.Prelude.{◌≡◌, ℕ, ◌+◌, min, Bool, ◌&&◌, ◌||◌, cond, List, length}
use Rattle.jc_view.specs.Attributes.{codes_of, exceptions_of}
use Rattle.jc_view.specs.ClassFile.{ClassFile, Member}
use Rattle.jc_file.specs.FormatRules.{breaks_f24, has_bad_exceptions}
use Rattle.jc_file.specs.declared.method_attributes.OfKind.{OfKind}

-- the count is the length of the list; all counts from 2 on are equal
abbrev pub Counts : {X : Type 0} → ℕ → List X → Type 0
Counts count xs = min 2 count ≡ min 2 (length xs)

-- one attribute is added if there is one, and it may be bad
pub record AddsIf (is_one is_bad : Bool) (old new : OfKind) : Type 0 where
  pub count : min 2 new.count ≡ min 2 (old.count + cond is_one 1 0)
  pub has_bad : new.has_bad ≡ (old.has_bad || is_one && is_bad)

-- the Code and the Exceptions attributes of a method
pub record AreOf (c : ClassFile) (m : Member) (codes exceptions : OfKind) : Type 0 where
  pub code_count : Counts codes.count (codes_of c m)
  pub bad_code : codes.has_bad ≡ breaks_f24 c m
  pub exceptions_count : Counts exceptions.count (exceptions_of c m)
  pub bad_exceptions : exceptions.has_bad ≡ has_bad_exceptions c m
