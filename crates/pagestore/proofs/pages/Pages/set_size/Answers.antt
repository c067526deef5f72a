use Rattle.std.proofs.Common.{ap, sym, ◌∙◌, ◌≡◌}
use Rattle.std.specs.Prelude.{slice_set}
use Rattle.std.proofs.lemmas.List.{get_or_read}
use Rattle.mapping.specs.Pages.{FilePages}
use Rattle.pagestore.specs.declared.kept.KeptFile.{KeptFile}
use Rattle.machine.specs.State.{File}
use Rattle.pagestore.specs.Store.{Store, store_of, none_kept, kept_at, file_of, stored_at}
use Rattle.pagestore.proofs.StoreLaws.{seen-file, stored-kept}
use Rattle.pagestore.proofs.StoreFacts.{here_kept, store_file}
use Rattle.pagestore.proofs.pages.Pages.set_size.Goals as goal

pub invariant_of-self : goal.invariant_of-self
invariant_of-self c =
    let t = c.self.inside.frames in
    let up = c.self.inside.uptodate.items in
    let files = c.self.inside.files.items in
    let f = c.args.file in
    let here = here_kept t up files f c.args.self.now c.self.view_is c.requires in
    let entry : c.index_mut.result.now ≡ kept_at files f =
    get_or_read files f c.index_mut.result.now here c.index_mut.ensures.value none_kept in
    store_file t up files c.self.inside.dirty f (record c.index_mut.result.now { mapping = c.set_size.new.self })
    (ap (λ (m : FilePages). m.pages) c.set_size.ensures ∙ ap (λ (k : KeptFile). k.mapping.pages) entry) here
    c.self.invariant

pub returns : goal.returns
returns c =
    let t = c.self.inside.frames in
    let up = c.self.inside.uptodate.items in
    let files = c.self.inside.files.items in
    let f = c.args.file in
    let here = here_kept t up files f c.args.self.now c.self.view_is c.requires in
    let entry : c.index_mut.result.now ≡ kept_at files f =
    get_or_read files f c.index_mut.result.now here c.index_mut.ensures.value none_kept in
    let kept : KeptFile =
    record (kept_at files f) { mapping = record (kept_at files f).mapping { size = c.args.size } } in
    let same : record c.index_mut.result.now { mapping = c.set_size.new.self } ≡ kept =
    ap (λ (m : FilePages). let k : KeptFile = record c.index_mut.result.now { mapping = m } in k) c.set_size.ensures
    ∙ ap (λ (k : KeptFile). let l : KeptFile = record k { mapping = record k.mapping { size = c.args.size } } in l)
    entry in
    let file : file_of t up kept ≡ record (stored_at (store_of t up files) f) { size = c.args.size } =
    ap (λ (e : File). let y : File = record e { size = c.args.size } in y) (sym (stored-kept t up files f)) in
    ap (λ (k : KeptFile). store_of t up (slice_set files f k)) same
    ∙ seen-file t up files f kept (record (stored_at (store_of t up files) f) { size = c.args.size }) here
    (λ _. kept.mapping.pages) file
    ∙ ap (λ (s : Store). let u : Store =
    record s { files = slice_set s.files f (record (stored_at s f) { size = c.args.size }) } in u) c.self.view_is
