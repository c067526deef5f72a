use Rattle.std.proofs.Common.{◌∙◌, ◌⊎◌, subst, sym}
use Rattle.shared.specs.Rooms.{IsFinal}
use Rattle.shared.specs.Settled.{Settles}
use Rattle.shared.specs.Synced.{IsFsyncDenied, IsNotBegun}
use Rattle.shared.proofs.shards.sync.FsyncRangeSeatCall.on.Goals as goal

-- the clauses speak of the name that the cache has, which is the one that B names
pub returns-in-Err-clause-call : goal.returns-in-Err-clause-call
returns-in-Err-clause-call g c = λ named.
    let is = c.args.cache.now.named in
    let h = c.args.self.now.handle.now in
    let to = c.fsync_range.new.handle in
    let before = c.args.own.now in
    let after = c.fsync_range.new.seat in
    let d = c.in-Err.denied in
    record {
      closed = λ other. let p = c.in-Err.ensures.closed (named ∙ sym is) (λ same. other (same ∙ is)) in ((p.0, p.1), p.2);
      goes = c.in-Err.ensures.goes;
      only = c.in-Err.ensures.only;
      same = c.in-Err.ensures.same;
      clean = tt;
      hears = tt;
      denied = λ same. subst (λ m. IsFsyncDenied g.N.Naming.files g.N.Naming.sizes m g.N.Naming.whole h.number c.args.self.now.first c.args.self.now.last before after h.pass to.pass d) is
          (c.in-Err.ensures.denied (named ∙ sym is) (same ∙ sym is));
      stands = subst (λ m. IsNotBegun g.N.Naming.files g.N.Naming.sizes m g.N.Naming.whole h.number c.args.self.now.first c.args.self.now.last before after d ⊎ IsFinal g.N.Naming.files g.N.Naming.sizes m after d) is
          c.in-Err.ensures.stands;
      settled = subst (λ m. Settles m before after) is c.in-Err.ensures.settled;
    }
