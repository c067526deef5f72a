-- What a handle knows of failed writes when its sync ends, and what a poll answers then.
use Rattle.std.proofs.Common.{◌≡◌, ℕ, ◌+◌, ◌≤◌, List, length, take, refl, sym, ap, subst, ◌∙◌, arith}
use Rattle.std.specs.Prelude.{IfOk, None, Option, Result}
use Rattle.std.proofs.lemmas.List.{length_push, take_all}
use Rattle.std.proofs.lemmas.Result.{IfOk-weaker}
use mathlib.Core.List.{IsPrefix}
use Rattle.errboard.specs.Shown.{PassSeen, RecorderSeen}
use Rattle.errboard.specs.Views.{recorded_of}
use Rattle.errseq.specs.declared.recording.Recording.{Recording}
use Rattle.errseq.proofs.Prefixes.{prefix_length, prefix_self, prefix_trans}
use Rattle.machine.specs.State.{file_at}
use Rattle.machine.specs.declared.event.Event.{Event}
use Rattle.machine.specs.declared.event.Reply.{Reply}
use Rattle.pc_types.specs.Limits.{Sizes}
use Rattle.machine.specs.Catalogs.{Catalog}
use Rattle.trail.specs.Entries.{entry_of}
use Rattle.trail.specs.History.{After}
use Rattle.held.specs.declared.log.Slip.{Slip}
use Rattle.held.specs.Entered.{Made}
use Rattle.held.specs.Shown.{HeldSeen, SeatSeen}
use Rattle.held.specs.declared.denied.Denied.{Denied}
use Rattle.shared.specs.Polls.{Hears, HearsJust, IsLevelled, Polled}
use Rattle.shared.specs.Synced.{Reports}

pub just_by : (files : Catalog) (sizes : Sizes) (name : ℕ) (e : Event) (r : Reply) (old new held : HeldSeen) (before after : SeatSeen)
    (slip : Slip) (p : PassSeen) → Made e r old new before after slip → held ≡ new
    → After files sizes name held.log.history held.core.state → length p.known ≡ (file_at held.core.state p.file).failures
    → HearsJust files sizes name slip after p
just_by files sizes name e r old new held before after slip p m same legal known =
    let history : length held.log.history ≡ length old.log.history + 1 =
    ap (λ (h : HeldSeen). length h.log.history) same ∙ ap length m.entered.history
    ∙ length_push old.log.history (entry_of before.number e r) in
    let there : take (slip.place + 1) after.list ≡ held.log.history =
    ap (take (slip.place + 1)) (m.entered.sees ∙ ap (λ (h : HeldSeen). h.log.history) (sym same))
    ∙ take_all (slip.place + 1) held.log.history (omega (arith, history, m.entered.placed.1)) in
    record {
      state = held.core.state;
      leaves = subst (λ l. After files sizes name l held.core.state) (sym there) legal;
      known = known;
    }

pub hears_by : (files : Catalog) (sizes : Sizes) (name : ℕ) (e : Event) (r : Reply) (old new held : HeldSeen) (before after : SeatSeen)
    (slip : Slip) (p : PassSeen) → Made e r old new before after slip → held ≡ new
    → After files sizes name held.log.history held.core.state → length p.known ≡ (file_at held.core.state p.file).failures
    → Hears files sizes name slip after p
hears_by files sizes name e r old new held before after slip p m same legal known =
    let just = just_by files sizes name e r old new held before after slip p m same legal known in
    record { state = just.state; leaves = just.leaves; known = omega (arith, just.known) }

hears_on : (files : Catalog) (sizes : Sizes) (name : ℕ) (slip : Slip) (seat : SeatSeen) (p q : PassSeen) → q.file ≡ p.file
    → IsPrefix p.known q.known → Hears files sizes name slip seat p → Hears files sizes name slip seat q
hears_on files sizes name slip seat p q same more h =
    let longer : length p.known ≤ length q.known = prefix_length p.known q.known more in
    let there : (file_at h.state q.file).failures ≡ (file_at h.state p.file).failures =
    ap (λ n. (file_at h.state n).failures) same in
    record { state = h.state; leaves = h.leaves; known = omega (arith, h.known, longer, there) }

-- a poll of a pass that was levelled is one of the pass as it was
polled_known : (old new : PassSeen) (known : List Recording) (told : Option ℕ) → IsPrefix old.known known
    → Polled (record old { known = known }) new told → Polled old new told
polled_known old new known told more p =
    let longer : length old.known ≤ length known = prefix_length old.known known more in
    record {
      same = p.same;
      grows = prefix_trans old.known known new.known more p.grows;
      done = p.done;
      compared = p.compared;
      code = p.code;
      none = p.none;
      owed = λ turn below. p.owed turn (omega arith);
      kept = p.kept;
      seen = p.seen;
    }

pub polled_from : (old at new : PassSeen) (told : Option ℕ) → IsLevelled old at → Polled at new told → Polled old new told
polled_from old at new told level p =
    polled_known old new at.known told level.1 (subst (λ x. Polled x new told) level.0 p)

pub reports_from : (failed : Option ℕ) (slip : Slip) (old at new : PassSeen) (d : Denied) → IsLevelled old at
    → Reports failed slip at new d → Reports failed slip old new d
reports_from failed slip old at new d level r = record {
  answer = r.answer;
  code = r.code;
  polled = polled_from old at new r.answer level r.polled;
  tells = r.tells;
  is = r.is;
}

pub level_same : (old new : PassSeen) → new ≡ old → IsLevelled old new
level_same old new e = subst (IsLevelled old) (sym e) (refl, prefix_self old.known)

-- a pass that knows all that was recorded is levelled already
pub level_new : (old new : RecorderSeen) (file : ℕ) (p q : PassSeen) → new ≡ old → p.file ≡ file
    → p.known ≡ recorded_of old.all file → q ≡ record p { known = q.known } → q.known ≡ recorded_of new.all p.file → q ≡ p
level_new old new file p q same of knew is knows =
    let known : q.known ≡ p.known =
    knows ∙ ap (recorded_of new.all) of ∙ ap (λ (r : RecorderSeen). recorded_of r.all file) same ∙ sym knew in
    is ∙ ap (λ (l : List Recording). record p { known = l }) known

pub just_named : (files : Catalog) (sizes : Sizes) (name called : ℕ) (slip : Slip) (seat : SeatSeen) (p : PassSeen) → called ≡ name
    → HearsJust files sizes name slip seat p → HearsJust files sizes called slip seat p
just_named files sizes name called slip seat p is h = subst (λ n. HearsJust files sizes n slip seat p) (sym is) h

-- what an fsync tells knows what its sync heard
pub hears_told : (result : Result Slip Denied) (files : Catalog) (sizes : Sizes) (name : ℕ) (at : Slip) (seat : SeatSeen) (mid new : PassSeen)
    → Hears files sizes name at seat mid → IfOk result (λ slip. (slip ≡ at) × Polled mid new None)
    → IfOk result (λ slip. Hears files sizes name slip seat new)
hears_told result files sizes name at seat mid new h q =
    IfOk-weaker result (λ slip. (slip ≡ at) × Polled mid new None) (λ slip. Hears files sizes name slip seat new)
    (λ slip k. subst (λ (s : Slip). Hears files sizes name s seat new) (sym k.0)
    (hears_on files sizes name at seat mid new k.1.same.1 k.1.grows h)) q

pub hears_reported : (files : Catalog) (sizes : Sizes) (name : ℕ) (at slip : Slip) (seat : SeatSeen) (mid new : PassSeen) (failed : Option ℕ)
    (d : Denied) → Hears files sizes name at seat mid → Reports failed slip mid new d → Hears files sizes name at seat new
hears_reported files sizes name at slip seat mid new failed d h r =
    hears_on files sizes name at seat mid new r.polled.same.1 r.polled.grows h
