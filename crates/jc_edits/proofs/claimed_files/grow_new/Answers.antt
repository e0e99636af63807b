use Rattle.std.proofs.Common.{◌≡◌, ap, ◌∙◌}
use Rattle.std.specs.FinMap as map
use Rattle.jc_edits.proofs.holding.ClaimsStay.{new_besides, new_empty, new_place, new_commits, new_undoes}
use Rattle.jc_edits.proofs.claimed_files.grow_new.Goals as goal

pub returns-in-Ok-clause-grown : goal.returns-in-Ok-clause-grown
returns-in-Ok-clause-grown c =
    let f = c.grow_file.new.held.files in
    let path = c.args.path.now in
    let absent : map.get f path ≡ map.get c.args.held.now.files path = ap (λ g. map.get g path) c.in_ok-grown.ensures.files in
    record {
      besides = new_besides f c.keep_place.new.files path c.in_ok-grown.grown.path.now c.in-Ok.ensures.ok c.in_ok-grown.ensures.path c.grow_file.new.held.claims c.args.file c.in_ok-grown.grown.file c.in_ok-grown.ensures.file (absent ∙ c.requires.absent) c.in_ok-grown.ensures.grown;
      empty = new_empty f c.keep_place.new.files path c.in_ok-grown.grown.path.now c.in-Ok.ensures.ok c.in_ok-grown.ensures.path;
    }

pub returns-in-Ok-clause-place : goal.returns-in-Ok-clause-place
returns-in-Ok-clause-place c =
    let f = c.grow_file.new.held.files in
    let path = c.args.path.now in
    new_place f c.keep_place.new.files path c.in_ok-grown.grown.path.now c.in-Ok.ensures.ok c.in_ok-grown.ensures.path c.args.file c.in_ok-grown.grown.file c.in_ok-grown.ensures.file

pub returns-in-Ok-clause-commits : goal.returns-in-Ok-clause-commits
returns-in-Ok-clause-commits c =
    let f = c.grow_file.new.held.files in
    let path = c.args.path.now in
    let bytes = c.args.file in
    new_commits f c.keep_place.new.files path c.in_ok-grown.grown.path.now c.in-Ok.ensures.ok c.in_ok-grown.ensures.path bytes c.in_ok-grown.grown.file c.in_ok-grown.ensures.file
    ∙ ap (λ g. map.insert g path bytes) c.in_ok-grown.ensures.files

pub returns-in-Ok-clause-undoes : goal.returns-in-Ok-clause-undoes
returns-in-Ok-clause-undoes c =
    let f = c.grow_file.new.held.files in
    let path = c.args.path.now in
    let absent = ap (λ g. map.get g path) c.in_ok-grown.ensures.files in
    new_undoes f c.keep_place.new.files path c.in_ok-grown.grown.path.now c.in-Ok.ensures.ok c.in_ok-grown.ensures.path (absent ∙ c.requires.absent) ∙ c.in_ok-grown.ensures.files
