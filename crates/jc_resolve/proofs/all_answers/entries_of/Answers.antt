use Rattle.std.proofs.Common.{ℕ, ◌≡◌, get_or, length, map, sym, ap, subst, ◌∙◌, arith}
use Rattle.std.proofs.lemmas.List.{get_or_default, length-map}
use Rattle.std.specs.declared.vec.Vec.{Vec}
use Rattle.std.specs.declared.alloc.Global.{Global}
use Rattle.jc_classes.specs.Facts.{Reference}
use Rattle.jc_classes.specs.Parts.{AreAnswers}
use Rattle.jc_classes.specs.Worlds.{World}
use Rattle.jc_classes.specs.declared.linkage_error.LinkageError.TheVariants as fault
use Rattle.jc_numbered.specs.declared.loads.Load.{Load}
use Rattle.jc_numbered.specs.declared.loads.Load.TheVariants as code
use Rattle.jc_numbered.specs.inside.Indexed.{indexed_name, IsIndexed}
use Rattle.jc_numbered.specs.inside.Shown.{indexed_of}
use Rattle.jc_numbered.specs.inside.Loading.{load_at}
use Rattle.jc_resolve.specs.declared.entry.Entry.{Entry}
use Rattle.jc_resolve.specs.declared.entry.Entry.TheVariants.{NotLoaded}
use Rattle.jc_resolve.specs.inside.Answered.{AreAnswered}
use Rattle.jc_resolve.specs.inside.Resolved.{has_loaded, loading_of, TellsLoads}
use Rattle.jc_resolve.proofs.answering.Entries.{none_shown}
use Rattle.jc_resolve.proofs.lookups.IfOks.{if_ok_map}
use Rattle.jc_resolve.proofs.loading.Nets.{none_answers}
use Rattle.jc_resolve.proofs.all_answers.entries_of.Goals as goal

pub returns-in_default-clause-answered : goal.returns-in_default-clause-answered
returns-in_default-clause-answered c =
    let x = indexed_of c.args.classes.now in
    let l : Load = load_at c.args.loads.now c.args.class in
    let d = indexed_name x c.args.class in
    let refs = c.args.facts.now.references in
    let is : get_or c.args.loads.now c.args.class code.Loaded ≡ l = get_or_default c.args.loads.now c.args.class code.Loaded (code.Fails fault.NoClass 0) (omega (arith, c.requires.class, c.requires.loads)) in
    let not : l ≡ code.Loaded → ⊥ = λ e. c.in_default.not-Loaded (is ∙ e) in
    let f = λ (v : Vec (Entry ℕ) Global) (e : v.items ≡ map (λ (r : Reference). NotLoaded) refs).
    subst (AreAnswered x c.args.loads.now c.args.class refs) (sym e) (
      length-map refs (λ (r : Reference). NotLoaded),
      λ (m : World) (told : TellsLoads m x (length x.names) c.args.loads.now) (index : IsIndexed m x).
          subst (AreAnswers m d (loading_of x l) refs) (sym (none_shown (λ r. indexed_name x) refs)) (none_answers m d x l not refs),
    ) in
    if_ok_map _ _ _ f c.none_loaded.ensures

pub invariant_of-look : goal.invariant_of-look
invariant_of-look c =
    let loads = c.args.loads.now in
    let class = c.args.class in
    let is : get_or loads class code.Loaded ≡ load_at loads class = get_or_default loads class code.Loaded (code.Fails fault.NoClass 0) (omega (arith, c.requires.class, c.requires.loads)) in
    record {
      size = c.requires.loads;
      good = c.requires.good;
      within = c.requires.class;
      loaded = ap has_loaded (sym is ∙ c.in-Loaded.is);
    }
