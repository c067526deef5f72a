use Rattle.std.proofs.Common.{ap, sym, subst, ◌∙◌, ◌≡◌, ◌++◌, ◌∷◌, []}
use Rattle.std.specs.Prelude.{is_ok, OnOk}
use Rattle.machine.specs.State.{no_file}
use Rattle.pagestore.specs.Store.{Store, store_of}
use Rattle.pagestore.proofs.StoreFacts.{pushed_store, pushed_seen}
use Rattle.pagestore.proofs.pages.Pages.add_file.Goals as goal
use Rattle.pagestore.proofs.pages.Pages.add_file.Goals.{in-Ok, in-Err}

pub invariant_of-self : goal.invariant_of-self
invariant_of-self c = pushed_store c.self.inside.frames c.self.inside.uptodate.items c.self.inside.files.items
    c.self.inside.dirty (is_ok c.push.result) c.push.new.self.items c.new.result c.push.ensures.items c.new.ensures
    c.self.invariant

pub returns-clause-ok : goal.returns-clause-ok
returns-clause-ok c =
    let t = c.self.inside.frames in
    let up = c.self.inside.uptodate.items in
    let files = c.self.inside.files.items in
    elim c.match-push.branch [
      | in-Ok w ↦ subst (λ r. OnOk r
          (store_of t up c.push.new.self.items ≡ record c.args.self.now
          { files = c.args.self.now.files ++ no_file ∷ [] })) (sym w.result-is)
          (pushed_seen t up files (is_ok c.push.result) c.push.new.self.items c.new.result c.push.ensures.items
          c.new.ensures (ap is_ok w.in-Ok.is)
          ∙ ap (λ (s : Store). let u : Store = record s { files = s.files ++ no_file ∷ [] } in u) c.self.view_is)
      | in-Err w ↦ subst (λ r. OnOk r
          (store_of t up c.push.new.self.items ≡ record c.args.self.now
          { files = c.args.self.now.files ++ no_file ∷ [] })) (sym w.result-is) tt
    ]
