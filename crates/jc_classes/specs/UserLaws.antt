-- A constant without a user is not used.
use Rattle.std.specs.Prelude.{◌≡◌, ◌↔◌, ℕ, false}
use Rattle.jc_view.specs.ClassFile.{ClassFile}
use Rattle.jc_classes.specs.UsedConstants.{is_among, used_constants}
use Rattle.jc_classes.specs.Users.{user_of}
use Rattle.jc_classes.specs.declared.used.User.TheVariants as user

-- a constant has no user if and only if it is not used; so the constants that methods use are used constants
abbrev pub UsersAreUsed : Type 0
UsersAreUsed = (c : ClassFile) (i : ℕ) → (user_of c i ≡ user.Nothing) ↔ (is_among (used_constants c) i ≡ false)
