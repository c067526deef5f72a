-- What the world notes of the requests in flight: the bytes of each flush, and outcomes that fit.
use Rattle.std.proofs.Common.{◌≡◌, ℕ, ◌≢◌, Bool, true, false, cond, eqb, List, [], refl, ap, sym, ◌∙◌, inl, inr, ◌&&◌}
use Rattle.std.proofs.Common.{Option, Some, None, is_some, option_map, nat_le, nat_cmp}
use Rattle.std.specs.Prelude.{unwrap_or}
use Rattle.std.specs.FinMap as finmap
use Rattle.pc_types.specs.Kinds.{is_flush}
use Rattle.machine.specs.declared.event.Outcome.{Outcome}
use Rattle.machine.specs.State.{Request}
use Rattle.machine.specs.Changes.{cut_request}
use Rattle.maps.specs.Maps.{each_value}
use Rattle.machine.specs.Tests.{fits}
use Rattle.maps.proofs.Maps.{get-each_value}
use Rattle.runs.proofs.views.View.{Flight, put1, put1_tells, put1_at, put1_else}
use Rattle.runs.proofs.views.Place.{dropped_where}
use Rattle.runs.proofs.events.Lookups.{get-insert1, get-remove1}

abbrev pub Requests : Type 0
Requests = finmap.FinMap nat_cmp Request

abbrev pub Outcomes : Type 0
Outcomes = finmap.FinMap nat_cmp Outcome

abbrev pub Bytes : Type 0
Bytes = finmap.FinMap nat_cmp (List ℕ)

-- whether a request writes
abbrev pub writes : Option Request → Bool
writes o = unwrap_or (option_map (λ x. is_flush x.kind) o) false

-- an outcome fits its request
abbrev pub fit : Option Request → Option Outcome → Bool
fit None call = true
fit (Some x) None = true
fit (Some x) (Some call) = fits x.kind call

pub record Tables (requests : Requests) (outcomes : Outcomes) (writing : Bytes) : Type 0 where
  pub writes : (t : ℕ) → is_some (finmap.get writing t) ≡ writes (finmap.get requests t)
  pub fit : (t : ℕ) → fit (finmap.get requests t) (finmap.get outcomes t) ≡ true

-- ---- a request with its bytes

abbrev pub flight : List ℕ → Request → Flight
flight b x = record { kind = x.kind; file = x.file; page = x.page; block = x.block; bytes = b; dropped = x.dropped }

abbrev pub bytes_of : Bytes → ℕ → List ℕ
bytes_of writing t = unwrap_or (finmap.get writing t) []

abbrev pub flight_at : Requests → Bytes → ℕ → Option Flight
flight_at requests writing t = option_map (flight (bytes_of writing t)) (finmap.get requests t)

-- a request in flight shows, and so does one that does
pub flight_is : (requests : Requests) (writing : Bytes) (t : ℕ) (x : Request) → finmap.get requests t ≡ Some x
    → flight_at requests writing t ≡ Some (flight (bytes_of writing t) x)
flight_is requests writing t x e = ap (option_map (flight (bytes_of writing t))) e

pub request_is : (requests : Requests) (writing : Bytes) (t : ℕ) (r : Flight) → flight_at requests writing t ≡ Some r
    → (x : Request) × (finmap.get requests t ≡ Some x) × (r ≡ flight (bytes_of writing t) x)
request_is requests writing t r e = go (finmap.get requests t) refl e
  where
    go : (o : Option Request) → finmap.get requests t ≡ o → option_map (flight (bytes_of writing t)) o ≡ Some r
        → (x : Request) × (finmap.get requests t ≡ Some x) × (r ≡ flight (bytes_of writing t) x)
    go None is k = absurd cc
    go (Some x) is k = (x, is, (let a : flight (bytes_of writing t) x ≡ r = cc in sym a))

some_flight : (b : List ℕ) (o : Option Request) → is_some (option_map (flight b) o) ≡ is_some o
some_flight b None = refl
some_flight b (Some x) = refl

pub in_flight : (requests : Requests) (writing : Bytes) (t : ℕ)
    → is_some (flight_at requests writing t) ≡ is_some (finmap.get requests t)
in_flight requests writing t = some_flight (bytes_of writing t) (finmap.get requests t)

module _ (requests : Requests) (writing : Bytes) where
  -- request t begins, with bytes b where it writes
  pub flight_begun : (after : Bytes) (t : ℕ) (x : Request) (b : List ℕ) → bytes_of after t ≡ b
      → ((u : ℕ) → u ≢ t → finmap.get after u ≡ finmap.get writing u) → (u : ℕ)
      → flight_at (finmap.insert requests t x) after u ≡ put1 (flight_at requests writing) t (Some (flight b x)) u
  flight_begun after t x b own others u = elim (put1_tells (finmap.get requests) t (Some x) u) [
    | inl h ↦ ap (option_map (flight (bytes_of after u))) (get-insert1 requests t x u ∙ h.1)
        ∙ ap (λ c. Some (flight c x)) (ap (bytes_of after) h.0 ∙ own) ∙ sym (put1_at (flight_at requests writing) t (Some (flight b x)) u h.0)
    | inr h ↦ ap (option_map (flight (bytes_of after u))) (get-insert1 requests t x u ∙ h.1)
        ∙ ap (λ o. option_map (flight (unwrap_or o [])) (finmap.get requests u)) (others u h.0)
        ∙ sym (put1_else (flight_at requests writing) t (Some (flight b x)) u h.0)
  ]

  -- request t ends
  pub flight_ended : (t u : ℕ) → flight_at (finmap.remove requests t) (finmap.remove writing t) u
      ≡ put1 (flight_at requests writing) t None u
  flight_ended t u = elim (put1_tells (flight_at requests writing) t None u) [
    | inl h ↦ ap (option_map (flight (bytes_of (finmap.remove writing t) u))) (get-remove1 requests t u ∙ put1_at (finmap.get requests) t None u h.0)
        ∙ sym h.1
    | inr h ↦ ap (option_map (flight (bytes_of (finmap.remove writing t) u)))
        (get-remove1 requests t u ∙ put1_else (finmap.get requests) t None u h.0)
        ∙ ap (λ o. option_map (flight (unwrap_or o [])) (finmap.get requests u))
        (get-remove1 writing t u ∙ put1_else (finmap.get writing) t None u h.0) ∙ sym h.1
  ]

  -- requests of pages of f from n on are dropped
  pub flight_cut : (f n u : ℕ) → flight_at (each_value (λ _. cut_request f n) requests) writing u
      ≡ option_map (dropped_where (λ g q. eqb g f && nat_le n q)) (flight_at requests writing u)
  flight_cut f n u = ap (option_map (flight (bytes_of writing u))) (get-each_value (λ _. cut_request f n) requests u)
      ∙ each (finmap.get requests u)
    where
      one : (x : Request) → flight (bytes_of writing u) (cut_request f n x)
          ≡ dropped_where (λ g q. eqb g f && nat_le n q) (flight (bytes_of writing u) x)
      one x = elim (eqb x.file f && nat_le n x.page) as (λ b. flight (bytes_of writing u)
          (cond b (record x { dropped = true }) x) ≡ cond b (record (flight (bytes_of writing u) x) { dropped = true })
          (flight (bytes_of writing u) x)) [ true ↦ refl | false ↦ refl ]

      each : (o : Option Request) → option_map (flight (bytes_of writing u)) (option_map (cut_request f n) o)
          ≡ option_map (dropped_where (λ g q. eqb g f && nat_le n q)) (option_map (flight (bytes_of writing u)) o)
      each None = refl
      each (Some x) = ap Some (one x)

-- ---- what is noted stays right

module _ (requests : Requests) (outcomes : Outcomes) (writing : Bytes) (ok : Tables requests outcomes writing) where
  -- request t begins, which has no outcome yet
  pub begun_tables : (t : ℕ) (x : Request) (after : Bytes) → finmap.get outcomes t ≡ None
      → is_some (finmap.get after t) ≡ is_flush x.kind → ((u : ℕ) → u ≢ t → finmap.get after u ≡ finmap.get writing u)
      → Tables (finmap.insert requests t x) outcomes after
  begun_tables t x after none own others = record {
    writes = λ u. elim (put1_tells (finmap.get requests) t (Some x) u) [
      | inl h ↦ ap (λ k. is_some (finmap.get after k)) h.0 ∙ own ∙ sym (ap writes (get-insert1 requests t x u ∙ h.1))
      | inr h ↦ ap is_some (others u h.0) ∙ ok.writes u ∙ sym (ap writes (get-insert1 requests t x u ∙ h.1))
    ];
    fit = λ u. elim (put1_tells (finmap.get requests) t (Some x) u) [
      | inl h ↦ ap (λ o. fit o (finmap.get outcomes u)) (get-insert1 requests t x u ∙ h.1)
          ∙ ap (fit (Some x)) (ap (finmap.get outcomes) h.0 ∙ none)
      | inr h ↦ ap (λ o. fit o (finmap.get outcomes u)) (get-insert1 requests t x u ∙ h.1) ∙ ok.fit u
    ];
  }

  -- request t ends
  pub ended_tables : (t : ℕ) → Tables (finmap.remove requests t) (finmap.remove outcomes t) (finmap.remove writing t)
  ended_tables t = record {
    writes = λ u. elim (put1_tells (finmap.get requests) t None u) [
      | inl h ↦ ap is_some (get-remove1 writing t u ∙ put1_at (finmap.get writing) t None u h.0)
          ∙ sym (ap writes (get-remove1 requests t u ∙ h.1))
      | inr h ↦ ap is_some (get-remove1 writing t u ∙ put1_else (finmap.get writing) t None u h.0) ∙ ok.writes u
          ∙ sym (ap writes (get-remove1 requests t u ∙ h.1))
    ];
    fit = λ u. elim (put1_tells (finmap.get requests) t None u) [
      | inl h ↦ ap (λ o. fit o (finmap.get (finmap.remove outcomes t) u)) (get-remove1 requests t u ∙ h.1)
      | inr h ↦ (λ i. fit ((get-remove1 requests t u ∙ h.1) i) ((get-remove1 outcomes t u ∙ put1_else (finmap.get outcomes) t None u h.0) i))
          ∙ ok.fit u
    ];
  }

  -- an outcome is noted that fits
  pub called_tables : (t : ℕ) (x : Request) (call : Outcome) → finmap.get requests t ≡ Some x → fits x.kind call ≡ true
      → Tables requests (finmap.insert outcomes t call) writing
  called_tables t x call is fitting = record {
    writes = ok.writes;
    fit = λ u. elim (put1_tells (finmap.get outcomes) t (Some call) u) [
      | inl h ↦ (λ i. fit ((ap (finmap.get requests) h.0 ∙ is) i) ((get-insert1 outcomes t call u ∙ h.1) i)) ∙ fitting
      | inr h ↦ ap (fit (finmap.get requests u)) (get-insert1 outcomes t call u ∙ h.1) ∙ ok.fit u
    ];
  }

  same_kind : (f n : ℕ) (x : Request) → (cut_request f n x).kind ≡ x.kind
  same_kind f n x =
      elim (eqb x.file f && nat_le n x.page) as (λ b. (cond b (record x { dropped = true }) x).kind ≡ x.kind)
      [ true ↦ refl | false ↦ refl ]

  -- requests are dropped
  pub cut_tables : (f n : ℕ) → Tables (each_value (λ _. cut_request f n) requests) outcomes writing
  cut_tables f n = record {
    writes =
        λ u. ok.writes u ∙ sym (ap writes (get-each_value (λ _. cut_request f n) requests u)
        ∙ same_writes (finmap.get requests u));
    fit = λ u. ap (λ o. fit o (finmap.get outcomes u)) (get-each_value (λ _. cut_request f n) requests u)
        ∙ same_fit (finmap.get requests u) (finmap.get outcomes u) ∙ ok.fit u;
  }
    where
      same_writes : (o : Option Request) → writes (option_map (cut_request f n) o) ≡ writes o
      same_writes None = refl
      same_writes (Some x) = ap is_flush (same_kind f n x)

      same_fit : (o : Option Request) (call : Option Outcome) → fit (option_map (cut_request f n) o) call ≡ fit o call
      same_fit None call = refl
      same_fit (Some x) None = refl
      same_fit (Some x) (Some call) = ap (λ k. fits k call) (same_kind f n x)
