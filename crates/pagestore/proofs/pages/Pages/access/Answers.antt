use Rattle.std.proofs.Common.{ap, sym, ◌∙◌, ◌≡◌, true}
use Rattle.std.specs.Prelude.{option_map}
use Rattle.std.specs.FinMap as map
use Rattle.std.proofs.lemmas.List.{get_or_read}
use Rattle.mapping.specs.Pages.{frame_of}
use Rattle.mapping.proofs.PageLemmas.{none_framed}
use Rattle.frames.specs.Table.{Table}
use Rattle.machine.specs.PageLists.{is_listed}
use Rattle.pagestore.specs.declared.kept.KeptFile.{KeptFile}
use Rattle.pagestore.specs.Store.{Store, none_kept, kept_at, entry_at, store_of, with_lists}
use Rattle.pagestore.proofs.StoreFacts.{here_kept}
use Rattle.pagestore.proofs.ListedFrames.{accessed_nowhere, unlisted}
use Rattle.pagestore.proofs.Owners.{no_frame}
use Rattle.pagestore.proofs.PagePlaces.{FilePage}
use Rattle.pagestore.proofs.ReadFrames.{frame_taken, read_seen, read_store, walked_entry}
use Rattle.pagestore.proofs.pages.Pages.access.Goals as goal
use Rattle.pagestore.proofs.pages.Pages.access.Goals.{After-self}

abbrev at : After-self → FilePage
at c = record {
  pages = c.self.inside;
  kept = c.self.invariant;
  store = c.args.self.now;
  seen = c.self.view_is;
  file = c.args.file;
  page = c.args.page;
  here = c.requires;
}

pub accessed-requires : goal.accessed-requires
accessed-requires c =
    let w = at (goal.at.accessed-requires c).After-self in
    frame_taken w c.in-Some.frame
    (walked_entry w c.index.result.now
    c.index.ensures c.in-Some.frame c.in-Some.ensures)

pub returns-in-Some : goal.returns-in-Some
returns-in-Some c =
    let w = at (goal.at.returns-in-Some c).After-self in
    ap (λ (u : Table). store_of u c.self.inside.uptodate.items c.self.inside.files.items) c.accessed.ensures
    ∙ read_seen w c.in-Some.frame
    (walked_entry w c.index.result.now
    c.index.ensures c.in-Some.frame c.in-Some.ensures)

pub returns-in_default : goal.returns-in_default
returns-in_default c =
    let t = c.self.inside.frames in
    let up = c.self.inside.uptodate.items in
    let files = c.self.inside.files.items in
    let f = c.args.file in
    let p = c.args.page in
    let here = here_kept t up files f c.args.self.now c.self.view_is c.requires in
    let entry : c.index.result.now ≡ kept_at files f = get_or_read files f c.index.result.now here c.index.ensures
    none_kept in
    let absent =
    none_framed (entry_at files f p)
    (c.in_default.ensures ∙ ap (λ (k : KeptFile). option_map frame_of (map.get k.mapping.pages p)) entry) in
    let nowhere = ap (λ (s : Store). is_listed f p s.lists) (sym c.self.view_is)
    ∙ unlisted t c.self.invariant.sound f p
    (no_frame t up files c.self.inside.dirty c.self.invariant f p absent) in
    sym (ap (with_lists c.args.self.now) (accessed_nowhere f p c.args.self.now.lists nowhere))

pub invariant_of-self : goal.invariant_of-self
invariant_of-self c =
    let w = at (goal.at.invariant_of-self c).After-self in
    let there = walked_entry w c.index.result.now c.index.ensures c.in-Some.frame c.in-Some.ensures in
    read_store w c.in-Some.frame there c.accessed.new.self true (λ _. c.accessed.ensures) (λ none. absurd cc)
