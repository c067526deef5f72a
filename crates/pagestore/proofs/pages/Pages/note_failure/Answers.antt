use Rattle.std.proofs.Common.{ap, sym, refl, ◌∙◌, ◌≡◌, ◌+◌}
use Rattle.std.specs.Prelude.{slice_set}
use Rattle.std.proofs.lemmas.List.{get_or_read}
use Rattle.pagestore.specs.declared.kept.KeptFile.{KeptFile}
use Rattle.machine.specs.State.{File}
use Rattle.pagestore.specs.Store.{Store, store_of, none_kept, kept_at, file_of, stored_at}
use Rattle.pagestore.proofs.StoreLaws.{seen-file, stored-kept}
use Rattle.pagestore.proofs.StoreFacts.{here_kept, store_file}
use Rattle.pagestore.proofs.pages.Pages.note_failure.Goals as goal

pub invariant_of-self : goal.invariant_of-self
invariant_of-self c =
    let t = c.self.inside.frames in
    let up = c.self.inside.uptodate.items in
    let files = c.self.inside.files.items in
    let f = c.args.file in
    let here = here_kept t up files f c.args.self.now c.self.view_is c.requires.here in
    let k = c.index_mut-kept.result.now in
    let entry : k ≡ kept_at files f = get_or_read files f k here c.index_mut-kept.ensures.value none_kept in
    store_file t up files c.self.inside.dirty f (record k { failures = k.failures + 1; last_code = c.args.code })
    (ap (λ (k : KeptFile). k.mapping.pages) entry) here c.self.invariant

pub returns : goal.returns
returns c =
    let t = c.self.inside.frames in
    let up = c.self.inside.uptodate.items in
    let files = c.self.inside.files.items in
    let f = c.args.file in
    let here = here_kept t up files f c.args.self.now c.self.view_is c.requires.here in
    let k = c.index_mut-kept.result.now in
    let entry : k ≡ kept_at files f = get_or_read files f k here c.index_mut-kept.ensures.value none_kept in
    let kept : KeptFile =
    record (kept_at files f) { failures = (kept_at files f).failures + 1; last_code = c.args.code } in
    let file : file_of t up kept ≡ record (stored_at (store_of t up files) f)
    { failures = (stored_at (store_of t up files) f).failures + 1; last_code = c.args.code } =
    ap (λ (e : File). let y : File = record e { failures = e.failures + 1; last_code = c.args.code } in y)
    (sym (stored-kept t up files f)) in
    ap (λ (k : KeptFile). let l : KeptFile = record k { failures = k.failures + 1; last_code = c.args.code } in
    store_of t up (slice_set files f l)) entry
    ∙ seen-file t up files f kept (record (stored_at (store_of t up files) f)
    { failures = (stored_at (store_of t up files) f).failures + 1; last_code = c.args.code }) here refl file
    ∙ ap (λ (s : Store). let u : Store =
    record s {
      files =
          slice_set s.files f (record (stored_at s f)
          { failures = (stored_at s f).failures + 1; last_code = c.args.code });
    } in u) c.self.view_is
