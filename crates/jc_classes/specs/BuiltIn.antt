-- The built-in java/lang/Object, which is the class of this name if no file gives one. It has the PUBLIC and PROTECTED
-- methods of the standard library's class. No method is FINAL here.
use Rattle.std.specs.Prelude.{ℕ, List, [], ◌∷◌, None, codes}
use Rattle.jc_file.specs.AccessFlags.{public, protected}
use Rattle.jc_classes.specs.Names.{object}
use Rattle.jc_classes.specs.Facts.{Facts, Member}

abbrev method : List ℕ → List ℕ → Member
method name descriptor = record { name = name; descriptor = descriptor; flags = public }

abbrev protected_method : List ℕ → List ℕ → Member
protected_method name descriptor = record { name = name; descriptor = descriptor; flags = protected }

abbrev pub object_methods : List Member
object_methods =
    method (codes "<init>") (codes "()V")
    ∷ method (codes "getClass") (codes "()Ljava/lang/Class;")
    ∷ method (codes "hashCode") (codes "()I")
    ∷ method (codes "equals") (codes "(Ljava/lang/Object;)Z")
    ∷ method (codes "toString") (codes "()Ljava/lang/String;")
    ∷ method (codes "notify") (codes "()V")
    ∷ method (codes "notifyAll") (codes "()V")
    ∷ method (codes "wait") (codes "()V")
    ∷ method (codes "wait") (codes "(J)V")
    ∷ method (codes "wait") (codes "(JI)V")
    ∷ protected_method (codes "clone") (codes "()Ljava/lang/Object;")
    ∷ protected_method (codes "finalize") (codes "()V")
    ∷ []

abbrev pub object_facts : Facts
object_facts = record {
  path = [];
  name = object;
  flags = public;
  superclass = None;
  interfaces = [];
  fields = [];
  methods = object_methods;
  references = [];
  uses = [];
  users = [];
  format_faults = [];
  code_faults = [];
}
