-- The facts of a class file, by the numbers of its texts.
use Rattle.std.specs.Prelude.{◌≡◌, ℕ, List, map, option_map}
use Rattle.jc_view.specs.ClassFile.{ClassFile, class_text_at}
use Rattle.jc_classes.specs.FactsOf.{class_name, interfaces_in, members_in, once, references_in}
use Rattle.jc_classes.specs.MemberOrder.{IsOrder}
use Rattle.jc_classes.specs.declared.read_facts.Entries.{Entries}
use Rattle.jc_classes.specs.inside.FactsShown.{member_shown, reference_shown, text_at}

pub record AreEntries (c : ClassFile) (texts : List (List ℕ)) (entries : Entries) : Type 0 where
  pub name : text_at texts entries.name ≡ class_name c
  pub superclass : option_map (text_at texts) entries.superclass ≡ class_text_at c c.super_class
  pub interfaces : map (text_at texts) entries.interfaces.items ≡ once (interfaces_in c)
  pub fields : map (member_shown texts) entries.fields.items ≡ members_in c c.fields
  pub methods : map (member_shown texts) entries.methods.items ≡ members_in c c.methods
  pub field_order : IsOrder (map (member_shown texts) entries.fields.items) entries.field_order.items
  pub method_order : IsOrder (map (member_shown texts) entries.methods.items) entries.method_order.items
  pub references : map (reference_shown texts) entries.references.items ≡ references_in c
