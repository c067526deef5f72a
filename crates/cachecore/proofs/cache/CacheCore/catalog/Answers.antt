use Rattle.std.proofs.Common.{◌≡◌, ◌<◌, ◌≤◌, ◌∙◌, ap, arith, length, sym}
use Rattle.std.specs.FinMap as finmap
use Rattle.std.proofs.lemmas.Bool.Decides.{nat_tests}
use Rattle.pc_types.specs.Limits.{Sizes}
use Rattle.pc_types.specs.Spots.{Spot, place_cmp}
use Rattle.catalog.specs.Cataloged.{Cataloged}
use Rattle.machine.specs.State.{State}
use Rattle.cachecore.proofs.CoreViews.{state_is}
use Rattle.cachecore.proofs.Standings.{more_files, tells_all}
use Rattle.cachecore.proofs.cache.CacheCore.catalog.Goals as goal

pub files-init : goal.files-init
files-init c =
    let is = c.new-catalog.ensures in
    record {
      page = ap (λ (t : Cataloged). t.page) is ∙ ap (λ (t : Sizes). t.page) c.geometry.ensures;
      blocks = ap (λ (t : Cataloged). t.blocks) is ∙ ap (λ (t : Sizes). t.blocks) c.geometry.ensures;
      few = omega arith;
      sizes = ap (λ (t : Cataloged). t.files.sizes) is;
      spots = λ g q.
          let none = ap (λ (t : Cataloged). finmap.get t.files.spots (g, q)) is ∙ finmap.get-empty {X = Spot} place_cmp (g, q) in
          grind (arith, nat_tests, none);
    }

pub files-preserved : goal.files-preserved
files-preserved c =
    let s = c.args.self.now.state in
    let count = ap (λ (t : State). length t.files) (state_is c.self.view_is) in
    let here : c.files.file < length s.files = omega (arith, c.files-test.true, c.file_count-file-end.ensures, count) in
    more_files s c.files.file c.files.catalog c.tell_file.new.catalog here c.files.invariant c.in_ok-tell_file.ensures.told

pub returns-clause-told : goal.returns-clause-told
returns-clause-told c =
    let s = c.args.self.now.state in
    let count = ap (λ (t : State). length t.files) (state_is c.self.view_is) in
    let all : length s.files ≤ c.files.file = omega (arith, c.files-test.false, c.file_count-file-end.ensures, count) in
    tells_all s c.files.file c.files.catalog all c.files.invariant
