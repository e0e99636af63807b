-- What uses a reference of a class file: the first method whose code uses it, something else, or nothing.
use Rattle.std.specs.Prelude.{ℕ, ◌==◌, ◌||◌, Bool, true, false, position, Option, Some, None, option_and_then}
use Rattle.std.specs.List.{list_any}
use Rattle.std.specs.Option.{option_map_or}
use Rattle.jc_view.specs.declared.constant_pool.ConstantIndex.{ConstantIndex}
use Rattle.jc_view.specs.ClassFile.{ClassFile, Member, constant_at}
use Rattle.jc_code.specs.NamedConstants.{named_by_method}
use Rattle.jc_classes.specs.declared.used.User.{User}
use Rattle.jc_classes.specs.declared.used.User.TheVariants as user
use Rattle.jc_view.specs.Lookups.{class_index}
use Rattle.jc_classes.specs.UsedConstants.{is_among, used_constants}

-- whether `member` is the index of a reference to a member whose class is the constant at i
abbrev pub is_owner : ClassFile → ℕ → ConstantIndex → Bool
is_owner c i member = option_map_or (λ class. class.0 == i) (option_and_then class_index (constant_at c member)) false

-- whether code that names the constant at `index` uses the constant at i. It does if the indexes are equal, or if the
-- constant at `index` is a reference to a member of the class at i
abbrev pub names_constant : ClassFile → ℕ → ConstantIndex → Bool
names_constant c i index = (index.0 == i) || is_owner c i index

-- whether the code of the method uses the constant at i
abbrev pub uses_constant : ClassFile → ℕ → Member → Bool
uses_constant c i m = list_any (names_constant c i) (named_by_method c m)

-- the number of the first method, in file order, whose code uses the constant at i
abbrev pub first_user : ClassFile → ℕ → Option ℕ
first_user c i = position (uses_constant c i) c.methods

-- what uses a constant: the first method whose code does, if there is one, or else something else or nothing
abbrev pub user_by : (method : Option ℕ) → (is_used : Bool) → User
user_by (Some number) is_used = user.Method number
user_by None true = user.Other
user_by None false = user.Nothing

abbrev pub user_of : ClassFile → ℕ → User
user_of c i = user_by (first_user c i) (is_among (used_constants c) i)
