use Rattle.std.proofs.Common.{◌≡◌, ◌⊎◌, Ok, sym, subst, ap, ◌∙◌, inr, arith}
use Rattle.std.proofs.lemmas.Result.{err_from_is_err_and}
use Rattle.jc_base.specs.Cursor.{Reading}
use Rattle.jc_view.specs.declared.parse_error.ParseError.TheVariants.{NoMemory, NoName}
use Rattle.jc_view.specs.inside.PartsFound.{parts}
use Rattle.jc_view.specs.Reading.{head_at, parts_at, class_value}
use Rattle.jc_view.specs.Refusal.{HasHead, IsRefusal}
use Rattle.jc_view.proofs.refusals.FirstRefusal.{good_of}
use Rattle.jc_view.specs.inside.Outcomes.{Fails}
use Rattle.jc_view.specs.inside.Tables.{HasVersion, TablesAtTail}
use Rattle.jc_view.specs.inside.ClassView.{AreTables}
use Rattle.jc_view.proofs.reading.Heads.{start}
use Rattle.jc_view.proofs.refusals.Parsing.{at_start, holds_at, refused, no_refusal, IsParsed, parsed, version_is, unnamed}
use Rattle.jc_view.proofs.places.ClassTables.{tables_found}
use Rattle.jc_view.proofs.view.parse.Goals as goal

-- why going over the bytes stopped
cause : (c : goal.After-from_residual) → (c.in_err-parts.field-0.0 ≡ NoMemory) ⊎ IsRefusal c.args.bytes.now c.in_err-parts.field-0.0
cause c =
    refused c.args.bytes.now c.in_err-parts.field-0.0 (λ i. omega (arith, c.type_inv.bytes i))
    (subst (λ (r : Reading). Fails c.in_err-parts.field-0.0 (parts_at r)) (at_start c.new-cursor.result c.args.bytes.now c.new-cursor.ensures.place c.new-cursor.ensures.rest) c.in_err-parts.ensures.parts)

pub returns-in_err-parts-clause-refused : goal.returns-in_err-parts-clause-refused
returns-in_err-parts-clause-refused c =
    let p = err_from_is_err_and c.from_residual.result c.from_residual.ensures.1 in
    rw (p.1, p.2) (cause c)

pub returns-in_err-parts-clause-readable : goal.returns-in_err-parts-clause-readable
returns-in_err-parts-clause-readable c = λ readable.
    let p = err_from_is_err_and c.from_residual.result c.from_residual.ensures.1 in
    rw (p.1, p.2) (no_refusal c.args.bytes.now c.in_err-parts.field-0.0 readable (cause c))

-- what was found, where the class has no name
read_unnamed : (c : goal.After-drop-parts) → parts_at (start c.args.bytes.now) ≡ Ok (parts c.in_ok-parts.parts, c.skip_class.new.cursor)
read_unnamed c = ap parts_at (sym (at_start c.new-cursor.result c.args.bytes.now c.new-cursor.ensures.place c.new-cursor.ensures.rest)) ∙ c.in_ok-parts.ensures.parts

found_unnamed : (c : goal.After-drop-parts) → IsParsed c.args.bytes.now (parts c.in_ok-parts.parts)
found_unnamed c = parsed c.args.bytes.now (parts c.in_ok-parts.parts) c.skip_class.new.cursor (λ i. omega (arith, c.type_inv.bytes i)) (read_unnamed c)

is_unnamed : (c : goal.After-drop-parts) → IsRefusal c.args.bytes.now NoName
is_unnamed c =
    let b = c.args.bytes.now in
    let items = c.in_ok-parts.parts.offsets.items in
    let class = class_value b items c.in_ok-parts.parts.tail in
    let found = found_unnamed c in
    unnamed b (parts c.in_ok-parts.parts) c.skip_class.new.cursor (λ i. omega (arith, c.type_inv.bytes i)) (read_unnamed c)
    (c.in_default.ensures.none class (holds_at b c.deref.result.now items class c.deref.ensures.value found.holds, sym found.this_class))

pub returns-in_default-clause-refused : goal.returns-in_default-clause-refused
returns-in_default-clause-refused c = inr (is_unnamed c)

pub returns-in_default-clause-readable : goal.returns-in_default-clause-readable
returns-in_default-clause-readable c = λ readable. no_refusal c.args.bytes.now NoName readable (inr (is_unnamed c))

-- what was found
read : (c : goal.After-result-2-1) → parts_at (start c.args.bytes.now) ≡ Ok (parts c.in_ok-parts.parts, c.skip_class.new.cursor)
read c = ap parts_at (sym (at_start c.new-cursor.result c.args.bytes.now c.new-cursor.ensures.place c.new-cursor.ensures.rest)) ∙ c.in_ok-parts.ensures.parts

found : (c : goal.After-result-2-1) → IsParsed c.args.bytes.now (parts c.in_ok-parts.parts)
found c = parsed c.args.bytes.now (parts c.in_ok-parts.parts) c.skip_class.new.cursor (λ i. omega (arith, c.type_inv.bytes i)) (read c)

found_tables : (c : goal.After-result-2-1) → AreTables (class_value c.args.bytes.now c.in_ok-parts.parts.offsets.items c.in_ok-parts.parts.tail) c.in_ok-parts.parts.tables
found_tables c =
    let b = c.args.bytes.now in
    let p = c.in_ok-parts.parts in
    let begins = at_start c.new-cursor.result b c.new-cursor.ensures.place c.new-cursor.ensures.rest in
    tables_found b p c.skip_class.new.cursor (λ i. omega (arith, c.type_inv.bytes i)) (read c) (subst (λ (r : Reading). TablesAtTail r p) begins c.in_ok-parts.ensures.tables)

pub invariant_of-result : goal.invariant_of-result
invariant_of-result c =
    let b = c.args.bytes.now in
    let p = c.in_ok-parts.parts in
    let items = p.offsets.items in
    let class = class_value b items p.tail in
    let found_here = found c in
    let begins = at_start c.new-cursor.result b c.new-cursor.ensures.place c.new-cursor.ensures.rest in
    let version = version_is b p.version items p.tail (subst (λ (r : Reading). HasVersion r p.version) begins c.in_ok-parts.ensures.version) in
    record {
      are_bytes = λ i. omega (arith, c.type_inv.bytes i);
      holds = found_here.holds;
      major = version.0;
      minor = version.1;
      flags = found_here.flags;
      this_class = found_here.this_class;
      super_class = found_here.super_class;
      tables = found_tables c;
      is_name = c.in-Some.ensures.some class (holds_at b c.deref.result.now items class c.deref.ensures.value found_here.holds, sym found_here.this_class);
    }

pub returns-clause-named : goal.returns-clause-named
returns-clause-named c =
    let b = c.args.bytes.now in
    let p = c.in_ok-parts.parts in
    let items = p.offsets.items in
    let here = found c in
    (c.in-Some.name.now, c.in-Some.ensures.some (class_value b items p.tail) (holds_at b c.deref.result.now items (class_value b items p.tail) c.deref.ensures.value here.holds, sym here.this_class))

pub returns-clause-ok : goal.returns-clause-ok
returns-clause-ok c = (found c).is_layout

-- memory was refused behind a good head
memory_at : (c : goal.After-from_residual) → c.in_err-parts.field-0.0 ≡ NoMemory → HasHead c.args.bytes.now
memory_at c memory =
    let b = c.args.bytes.now in
    let behind = c.in_err-parts.ensures.memory memory in
    let begins = at_start c.new-cursor.result b c.new-cursor.ensures.place c.new-cursor.ensures.rest in
    (good_of b behind.0 (subst (λ (r : Reading). head_at r ≡ Ok behind.0) begins behind.1)).0

pub returns-in_err-parts-clause-memory : goal.returns-in_err-parts-clause-memory
returns-in_err-parts-clause-memory c =
    let p = err_from_is_err_and c.from_residual.result c.from_residual.ensures.1 in
    rw (p.1, p.2) (memory_at c)
