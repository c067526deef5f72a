-- What the words of a command must be, by its name.
use Rattle.std.proofs.Common.{◌≡◌, ◌≢◌, ℕ, ◌+◌, ◌<◌, ◌≤◌, Bool, true, false, List, [], ◌∷◌, ◌++◌, drop, length, refl, sym, ap, subst, ◌∙◌}
use Rattle.std.proofs.Common.{arith}
use Rattle.std.specs.Prelude.{Option, Some, None, Result, Ok, Err, IfOk, OnErr, codes, if◌then◌else◌}
use Rattle.pc_types.specs.declared.ids.PageIndex.{PageIndex}
use Rattle.std.specs.Option.{ok_or}
use Rattle.std.specs.Str.{bytes_eq}
use Rattle.std.proofs.lemmas.Fmt.{decimal_injective}
use Rattle.script.specs.declared.command.Command.{Command}
use Rattle.script.specs.declared.command.Command.TheVariants as command
use Rattle.world.specs.declared.step.Step.TheVariants as step
use Rattle.script.specs.declared.command.TheConstants.{MAX_CODE, MAX_READ}
use Rattle.script.specs.declared.keyword.Keyword.{Keyword}
use Rattle.script.specs.declared.keyword.Keyword.TheVariants.{Config, Create, Open, Close, Size, Read, Write, Append, Truncate, Fill, Flush, Do, Fail, End, Sync, Step, Drop, Fsync, Poll, Evict, Age, Tags}
use Rattle.script.specs.Keywords.{name_of}
use Rattle.blockdev.specs.declared.fault.FaultEffect.{FaultEffect}
use Rattle.script.specs.Commands.{Part, Name, Number, Hex, Leaves, Begins, parts_of, range_parts, ranged, Asks, Means}
use Rattle.textline.specs.Words.{words_of}

-- ---- names

-- the keyword of a name
keyword_of_name : List ℕ → Keyword
keyword_of_name text =
    if bytes_eq text (codes "config") then Config
    else if bytes_eq text (codes "create") then Create
    else if bytes_eq text (codes "open") then Open
    else if bytes_eq text (codes "close") then Close
    else if bytes_eq text (codes "size") then Size
    else if bytes_eq text (codes "read") then Read
    else if bytes_eq text (codes "write") then Write
    else if bytes_eq text (codes "append") then Append
    else if bytes_eq text (codes "truncate") then Truncate
    else if bytes_eq text (codes "fill") then Fill
    else if bytes_eq text (codes "flush") then Flush
    else if bytes_eq text (codes "do") then Do
    else if bytes_eq text (codes "fail") then Fail
    else if bytes_eq text (codes "end") then End
    else if bytes_eq text (codes "sync") then Sync
    else if bytes_eq text (codes "step") then Step
    else if bytes_eq text (codes "drop") then Drop
    else if bytes_eq text (codes "fsync") then Fsync
    else if bytes_eq text (codes "poll") then Poll
    else if bytes_eq text (codes "evict") then Evict
    else if bytes_eq text (codes "age") then Age
    else Tags

keyword_of_name-name_of : (k : Keyword) → keyword_of_name (name_of k) ≡ k
unfolding keyword_of_name
keyword_of_name-name_of Config = refl
keyword_of_name-name_of Create = refl
keyword_of_name-name_of Open = refl
keyword_of_name-name_of Close = refl
keyword_of_name-name_of Size = refl
keyword_of_name-name_of Read = refl
keyword_of_name-name_of Write = refl
keyword_of_name-name_of Append = refl
keyword_of_name-name_of Truncate = refl
keyword_of_name-name_of Fill = refl
keyword_of_name-name_of Flush = refl
keyword_of_name-name_of Do = refl
keyword_of_name-name_of Fail = refl
keyword_of_name-name_of End = refl
keyword_of_name-name_of Sync = refl
keyword_of_name-name_of Step = refl
keyword_of_name-name_of Drop = refl
keyword_of_name-name_of Fsync = refl
keyword_of_name-name_of Poll = refl
keyword_of_name-name_of Evict = refl
keyword_of_name-name_of Age = refl
keyword_of_name-name_of Tags = refl

-- two keywords have two names
pub name_of_injective : (j k : Keyword) → name_of j ≡ name_of k → j ≡ k
name_of_injective j k e = sym (keyword_of_name-name_of j) ∙ ap keyword_of_name e ∙ keyword_of_name-name_of k

-- ---- words, part by part

head_eq : {A : Type 0} (x y : A) (xs ys : List A) → x ∷ xs ≡ y ∷ ys → x ≡ y
head_eq x y xs ys e = cc

tail_eq : {A : Type 0} (x y : A) (xs ys : List A) → x ∷ xs ≡ y ∷ ys → xs ≡ ys
tail_eq x y xs ys e = cc

-- words that begin with a name are those of the command that has it
pub named : (k j : Keyword) (words : List (List ℕ)) (parts : List Part) (rest : List (List ℕ)) → Begins (name_of k ∷ words) (Name j ∷ parts) rest
    → (j ≡ k) × Begins words parts rest
named k j words parts rest (word, more, e, is, begins) = (
  name_of_injective j k (sym is ∙ sym (head_eq _ _ _ _ e)),
  subst (λ w. Begins w parts rest) (sym (tail_eq _ _ _ _ e)) begins,
)

-- `Begins`, as a record whose arguments are found from it
pub record Starts (words : List (List ℕ)) (parts : List Part) (rest : List (List ℕ)) : Type 0 where
  pub begins : Begins words parts rest

-- after a number the words go on with the next part
pub after_number : {words taken rest : List (List ℕ)} {m : ℕ} {q : Part} {parts : List Part} → Begins words (Number m ∷ []) taken → Starts words (q ∷ parts) rest
    → Starts taken parts rest
after_number {rest = rest} {parts = parts} (w, more, e, is, end) starts =
    let (v, more', e', is', begins) = starts.begins in
    record { begins = subst (λ ws. Begins ws parts rest) (sym (tail_eq _ _ _ _ (sym e ∙ e')) ∙ end) begins }

-- one word is one number
pub same_number : {words rest end : List (List ℕ)} {m n : ℕ} {parts : List Part} → Begins words (Number m ∷ []) rest → Starts words (Number n ∷ parts) end → m ≡ n
same_number {m = m} {n = n} (w, more, e, is, b) starts =
    let (v, more', e', is', b') = starts.begins in
    decimal_injective m n is.1 is'.1 (sym is.0 ∙ head_eq _ _ _ _ (sym e ∙ e') ∙ is'.0)

-- what stands where a command may name a range of pages: no word, or two numbers
pub no_range : (words : List (List ℕ)) → words ≢ []
    → ((r : PageIndex × PageIndex) → ¬ (Begins words (range_parts (Some r)) [])) → (r : Option (PageIndex × PageIndex)) → ¬ (Begins words (range_parts r) [])
no_range words some none None begins = some begins
no_range words some none (Some r) begins = none r begins

-- words that begin with no number are no command's that goes on with one
pub no_number : {words rest : List (List ℕ)} {n : ℕ} {parts : List Part} → ((m : ℕ) (r : List (List ℕ)) → ¬ (Begins words (Number m ∷ []) r))
    → Starts words (Number n ∷ parts) rest → ⊥
no_number {n = n} none starts = let (w, more, e, is, b) = starts.begins in none n more (w, more, e, is, refl)

pub no_bytes : {words rest : List (List ℕ)} {b : List ℕ} {parts : List Part} → ((a : List ℕ) (r : List (List ℕ)) → ¬ (Begins words (Hex a ∷ []) r))
    → Starts words (Hex b ∷ parts) rest → ⊥
no_bytes {b = b} none starts = let (w, more, e, is, h) = starts.begins in none b more (w, more, e, is, refl)

pub no_effect : {words rest : List (List ℕ)} {e : FaultEffect} {parts : List Part} → ((a : FaultEffect) (r : List (List ℕ)) → ¬ (Begins words (Leaves a ∷ []) r))
    → Starts words (Leaves e ∷ parts) rest → ⊥
no_effect {e = e} none starts = let (w, more, k, is, h) = starts.begins in none e more (w, more, k, is, refl)

keyword_of : Command → Keyword
keyword_of (command.Config a b c d) = Config
keyword_of (command.Step step.Create) = Create
keyword_of (command.Step (step.Open f)) = Open
keyword_of (command.Step (step.Close h)) = Close
keyword_of (command.Step (step.Size h)) = Size
keyword_of (command.Step (step.Read h o n)) = Read
keyword_of (command.Step (step.Write h o b)) = Write
keyword_of (command.Step (step.Append h b)) = Append
keyword_of (command.Step (step.Truncate h z)) = Truncate
keyword_of (command.Step (step.FillBegin h p)) = Fill
keyword_of (command.Step (step.FlushBegin f)) = Flush
keyword_of (command.Step (step.Call t)) = Do
keyword_of (command.Fail t n e) = Fail
keyword_of (command.Step (step.End t)) = End
keyword_of (command.Step (step.SyncBegin h)) = Sync
keyword_of (command.Step (step.SyncBeginRange h a b)) = Sync
keyword_of (command.Step (step.SyncStep s)) = Step
keyword_of (command.Step (step.SyncDrop s)) = Drop
keyword_of (command.Fsync h r) = Fsync
keyword_of (command.Poll h) = Poll
keyword_of (command.Step step.Evict) = Evict
keyword_of (command.Step step.Age) = Age
keyword_of (command.Tags f p) = Tags

named_parts : (k : Keyword) (words rest : List (List ℕ)) (c : Command) → Begins (name_of k ∷ words) (parts_of c) rest
    → (keyword_of c ≡ k) × Begins words (drop 1 (parts_of c)) rest
unfolding keyword_of
named_parts k words rest (command.Config a b c d) begins = named k Config words (Number a ∷ Number b ∷ Number c ∷ Number d ∷ []) rest begins
named_parts k words rest (command.Step step.Create) begins = named k Create words ([]) rest begins
named_parts k words rest (command.Step (step.Open f)) begins = named k Open words (Number f.0 ∷ []) rest begins
named_parts k words rest (command.Step (step.Close h)) begins = named k Close words (Number h.0 ∷ []) rest begins
named_parts k words rest (command.Step (step.Size h)) begins = named k Size words (Number h.0 ∷ []) rest begins
named_parts k words rest (command.Step (step.Read h o n)) begins = named k Read words (Number h.0 ∷ Number o ∷ Number n ∷ []) rest begins
named_parts k words rest (command.Step (step.Write h o b)) begins = named k Write words (Number h.0 ∷ Number o ∷ Hex b ∷ []) rest begins
named_parts k words rest (command.Step (step.Append h b)) begins = named k Append words (Number h.0 ∷ Hex b ∷ []) rest begins
named_parts k words rest (command.Step (step.Truncate h z)) begins = named k Truncate words (Number h.0 ∷ Number z ∷ []) rest begins
named_parts k words rest (command.Step (step.FlushBegin f)) begins = named k Flush words (Number f.0 ∷ []) rest begins
named_parts k words rest (command.Step (step.Call t)) begins = named k Do words (Number t.0 ∷ []) rest begins
named_parts k words rest (command.Fail t n e) begins = named k Fail words (Number t.0 ∷ Number n ∷ Leaves e ∷ []) rest begins
named_parts k words rest (command.Step (step.End t)) begins = named k End words (Number t.0 ∷ []) rest begins
named_parts k words rest (command.Step (step.SyncBegin h)) begins = named k Sync words (Number h.0 ∷ []) rest begins
named_parts k words rest (command.Step (step.SyncBeginRange h a b)) begins =
    named k Sync words (Number h.0 ∷ range_parts (Some (a, b))) rest begins
named_parts k words rest (command.Step (step.SyncStep s)) begins = named k Step words (Number s.0 ∷ []) rest begins
named_parts k words rest (command.Step (step.SyncDrop s)) begins = named k Drop words (Number s.0 ∷ []) rest begins
named_parts k words rest (command.Fsync h r) begins = named k Fsync words (Number h.0 ∷ range_parts r) rest begins
named_parts k words rest (command.Poll h) begins = named k Poll words (Number h.0 ∷ []) rest begins
named_parts k words rest (command.Step step.Evict) begins = named k Evict words ([]) rest begins
named_parts k words rest (command.Step step.Age) begins = named k Age words ([]) rest begins
named_parts k words rest (command.Step (step.FillBegin h p)) begins = named k Fill words (Number h.0 ∷ Number p.0 ∷ []) rest begins
named_parts k words rest (command.Tags f p) begins = named k Tags words (Number f.0 ∷ Number p.0 ∷ []) rest begins

-- a line of a name asks for commands of that name alone
is_config : (c : Command) → keyword_of c ≡ Config → (p : ℕ) × (f : ℕ) × (d : ℕ) × (b : ℕ) × (c ≡ command.Config p f d b)
unfolding keyword_of
is_config (command.Config p f d b) e = (p, f, d, b, refl)
is_config (command.Step step.Create) e = cc
is_config (command.Step (step.Open f)) e = cc
is_config (command.Step (step.Close h)) e = cc
is_config (command.Step (step.Size h)) e = cc
is_config (command.Step (step.Read h o n)) e = cc
is_config (command.Step (step.Write h o b)) e = cc
is_config (command.Step (step.Append h b)) e = cc
is_config (command.Step (step.Truncate h z)) e = cc
is_config (command.Step (step.FillBegin h p)) e = cc
is_config (command.Step (step.FlushBegin f)) e = cc
is_config (command.Step (step.Call t)) e = cc
is_config (command.Fail t n x) e = cc
is_config (command.Step (step.End t)) e = cc
is_config (command.Step (step.SyncBegin h)) e = cc
is_config (command.Step (step.SyncBeginRange h a b)) e = cc
is_config (command.Step (step.SyncStep s)) e = cc
is_config (command.Step (step.SyncDrop s)) e = cc
is_config (command.Fsync h r) e = cc
is_config (command.Poll h) e = cc
is_config (command.Step step.Evict) e = cc
is_config (command.Step step.Age) e = cc
is_config (command.Tags f p) e = cc

pub config_alone : (line : List ℕ) (p f d b : ℕ) (c : Command) → Means line (command.Config p f d b) → Means line c
    → (q : ℕ) × (g : ℕ) × (e : ℕ) × (a : ℕ) × (c ≡ command.Config q g e a)
config_alone line p f d b c ((word, more, split, is, begins), within) asked =
    let words : words_of line ≡ name_of Config ∷ more = split ∙ ap (λ w. w ∷ more) is in
    let begun : Begins (name_of Config ∷ more) (parts_of c) [] = subst (λ ws. Begins ws (parts_of c) []) words asked.0 in
    is_config c (named_parts Config more [] c begun).0

-- ---- what follows a name

-- the words after a keyword, where they ask for its command
abbrev pub Follows : Keyword → List (List ℕ) → Type 0
Follows Config words = (a : ℕ) × (b : ℕ) × (c : ℕ) × (d : ℕ) × Starts words (Number a ∷ Number b ∷ Number c ∷ Number d ∷ []) []
Follows Create words = words ≡ []
Follows Open words = (a : ℕ) × Starts words (Number a ∷ []) []
Follows Close words = (a : ℕ) × Starts words (Number a ∷ []) []
Follows Size words = (a : ℕ) × Starts words (Number a ∷ []) []
Follows Read words = (a : ℕ) × (b : ℕ) × (n : ℕ) × Starts words (Number a ∷ Number b ∷ Number n ∷ []) [] × (n ≤ MAX_READ)
Follows Write words = (a : ℕ) × (b : ℕ) × (bytes : List ℕ) × Starts words (Number a ∷ Number b ∷ Hex bytes ∷ []) []
Follows Append words = (a : ℕ) × (bytes : List ℕ) × Starts words (Number a ∷ Hex bytes ∷ []) []
Follows Truncate words = (a : ℕ) × (b : ℕ) × Starts words (Number a ∷ Number b ∷ []) []
Follows Flush words = (a : ℕ) × Starts words (Number a ∷ []) []
Follows Do words = (a : ℕ) × Starts words (Number a ∷ []) []
Follows Fail words = (a : ℕ) × (n : ℕ) × (e : FaultEffect) × Starts words (Number a ∷ Number n ∷ Leaves e ∷ []) [] × (n ≤ MAX_CODE)
Follows End words = (a : ℕ) × Starts words (Number a ∷ []) []
Follows Sync words = (a : ℕ) × (r : Option (PageIndex × PageIndex)) × Starts words (Number a ∷ range_parts r) []
Follows Step words = (a : ℕ) × Starts words (Number a ∷ []) []
Follows Drop words = (a : ℕ) × Starts words (Number a ∷ []) []
Follows Fsync words = (a : ℕ) × (r : Option (PageIndex × PageIndex)) × Starts words (Number a ∷ range_parts r) []
Follows Poll words = (a : ℕ) × Starts words (Number a ∷ []) []
Follows Evict words = words ≡ []
Follows Age words = words ≡ []
Follows Fill words = (a : ℕ) × (b : ℕ) × Starts words (Number a ∷ Number b ∷ []) []
Follows Tags words = (a : ℕ) × (b : ℕ) × Starts words (Number a ∷ Number b ∷ []) []

pub asks : (k : Keyword) (words : List (List ℕ)) (c : Command) → Asks (name_of k ∷ words) c → Follows k words
unfolding keyword_of
asks k words (command.Config a b c d) asked = let s = named_parts k words [] (command.Config a b c d) asked.0 in subst (λ j. Follows j words) s.0 (a, b, c, d, record { begins = s.1 })
asks k words (command.Step step.Create) asked = let s = named_parts k words [] (command.Step step.Create) asked.0 in subst (λ j. Follows j words) s.0 s.1
asks k words (command.Step (step.Open f)) asked = let s = named_parts k words [] (command.Step (step.Open f)) asked.0 in subst (λ j. Follows j words) s.0 (f.0, record { begins = s.1 })
asks k words (command.Step (step.Close h)) asked = let s = named_parts k words [] (command.Step (step.Close h)) asked.0 in subst (λ j. Follows j words) s.0 (h.0, record { begins = s.1 })
asks k words (command.Step (step.Size h)) asked = let s = named_parts k words [] (command.Step (step.Size h)) asked.0 in subst (λ j. Follows j words) s.0 (h.0, record { begins = s.1 })
asks k words (command.Step (step.Read h o n)) asked = let s = named_parts k words [] (command.Step (step.Read h o n)) asked.0 in subst (λ j. Follows j words) s.0 (h.0, o, n, record { begins = s.1 }, asked.1)
asks k words (command.Step (step.Write h o b)) asked = let s = named_parts k words [] (command.Step (step.Write h o b)) asked.0 in subst (λ j. Follows j words) s.0 (h.0, o, b, record { begins = s.1 })
asks k words (command.Step (step.Append h b)) asked = let s = named_parts k words [] (command.Step (step.Append h b)) asked.0 in subst (λ j. Follows j words) s.0 (h.0, b, record { begins = s.1 })
asks k words (command.Step (step.FillBegin h p)) asked = let s = named_parts k words [] (command.Step (step.FillBegin h p)) asked.0 in subst (λ j. Follows j words) s.0 (h.0, p.0, record { begins = s.1 })
asks k words (command.Step (step.Truncate h z)) asked = let s = named_parts k words [] (command.Step (step.Truncate h z)) asked.0 in subst (λ j. Follows j words) s.0 (h.0, z, record { begins = s.1 })
asks k words (command.Step (step.FlushBegin f)) asked = let s = named_parts k words [] (command.Step (step.FlushBegin f)) asked.0 in subst (λ j. Follows j words) s.0 (f.0, record { begins = s.1 })
asks k words (command.Step (step.Call t)) asked = let s = named_parts k words [] (command.Step (step.Call t)) asked.0 in subst (λ j. Follows j words) s.0 (t.0, record { begins = s.1 })
asks k words (command.Fail t n e) asked = let s = named_parts k words [] (command.Fail t n e) asked.0 in subst (λ j. Follows j words) s.0 (t.0, n, e, record { begins = s.1 }, asked.1)
asks k words (command.Step (step.End t)) asked = let s = named_parts k words [] (command.Step (step.End t)) asked.0 in subst (λ j. Follows j words) s.0 (t.0, record { begins = s.1 })
asks k words (command.Step (step.SyncBegin h)) asked =
    let s = named_parts k words [] (command.Step (step.SyncBegin h)) asked.0 in
    subst (λ j. Follows j words) s.0 (h.0, None, record { begins = s.1 })
asks k words (command.Step (step.SyncBeginRange h a b)) asked =
    let s = named_parts k words [] (command.Step (step.SyncBeginRange h a b)) asked.0 in
    subst (λ j. Follows j words) s.0 (h.0, Some (a, b), record { begins = s.1 })
asks k words (command.Step (step.SyncStep n)) asked = let s = named_parts k words [] (command.Step (step.SyncStep n)) asked.0 in subst (λ j. Follows j words) s.0 (n.0, record { begins = s.1 })
asks k words (command.Step (step.SyncDrop n)) asked = let s = named_parts k words [] (command.Step (step.SyncDrop n)) asked.0 in subst (λ j. Follows j words) s.0 (n.0, record { begins = s.1 })
asks k words (command.Fsync h r) asked =
    let s = named_parts k words [] (command.Fsync h r) asked.0 in
    subst (λ j. Follows j words) s.0 (h.0, r, record { begins = s.1 })
asks k words (command.Poll h) asked = let s = named_parts k words [] (command.Poll h) asked.0 in subst (λ j. Follows j words) s.0 (h.0, record { begins = s.1 })
asks k words (command.Step step.Evict) asked = let s = named_parts k words [] (command.Step step.Evict) asked.0 in subst (λ j. Follows j words) s.0 s.1
asks k words (command.Step step.Age) asked = let s = named_parts k words [] (command.Step step.Age) asked.0 in subst (λ j. Follows j words) s.0 s.1
asks k words (command.Tags f p) asked = let s = named_parts k words [] (command.Tags f p) asked.0 in subst (λ j. Follows j words) s.0 (f.0, p.0, record { begins = s.1 })

-- a first word that is no name begins no command
pub unnamed : (word : List ℕ) (words : List (List ℕ)) (c : Command) → ((k : Keyword) → name_of k ≢ word) → ¬ (Asks (word ∷ words) c)
unnamed word words (command.Config a b c d) none h = none Config (sym h.0.3 ∙ sym (head_eq _ _ _ _ h.0.2))
unnamed word words (command.Step step.Create) none h = none Create (sym h.0.3 ∙ sym (head_eq _ _ _ _ h.0.2))
unnamed word words (command.Step (step.Open f)) none h = none Open (sym h.0.3 ∙ sym (head_eq _ _ _ _ h.0.2))
unnamed word words (command.Step (step.Close a)) none h = none Close (sym h.0.3 ∙ sym (head_eq _ _ _ _ h.0.2))
unnamed word words (command.Step (step.Size a)) none h = none Size (sym h.0.3 ∙ sym (head_eq _ _ _ _ h.0.2))
unnamed word words (command.Step (step.Read a o n)) none h = none Read (sym h.0.3 ∙ sym (head_eq _ _ _ _ h.0.2))
unnamed word words (command.Step (step.Write a o b)) none h = none Write (sym h.0.3 ∙ sym (head_eq _ _ _ _ h.0.2))
unnamed word words (command.Step (step.Append a b)) none h = none Append (sym h.0.3 ∙ sym (head_eq _ _ _ _ h.0.2))
unnamed word words (command.Step (step.FillBegin a p)) none h = none Fill (sym h.0.3 ∙ sym (head_eq _ _ _ _ h.0.2))
unnamed word words (command.Step (step.Truncate a z)) none h = none Truncate (sym h.0.3 ∙ sym (head_eq _ _ _ _ h.0.2))
unnamed word words (command.Step (step.FlushBegin f)) none h = none Flush (sym h.0.3 ∙ sym (head_eq _ _ _ _ h.0.2))
unnamed word words (command.Step (step.Call t)) none h = none Do (sym h.0.3 ∙ sym (head_eq _ _ _ _ h.0.2))
unnamed word words (command.Fail t n e) none h = none Fail (sym h.0.3 ∙ sym (head_eq _ _ _ _ h.0.2))
unnamed word words (command.Step (step.End t)) none h = none End (sym h.0.3 ∙ sym (head_eq _ _ _ _ h.0.2))
unnamed word words (command.Step (step.SyncBegin a)) none h = none Sync (sym h.0.3 ∙ sym (head_eq _ _ _ _ h.0.2))
unnamed word words (command.Step (step.SyncBeginRange a b c)) none h = none Sync (sym h.0.3 ∙ sym (head_eq _ _ _ _ h.0.2))
unnamed word words (command.Step (step.SyncStep a)) none h = none Step (sym h.0.3 ∙ sym (head_eq _ _ _ _ h.0.2))
unnamed word words (command.Step (step.SyncDrop a)) none h = none Drop (sym h.0.3 ∙ sym (head_eq _ _ _ _ h.0.2))
unnamed word words (command.Fsync a r) none h = none Fsync (sym h.0.3 ∙ sym (head_eq _ _ _ _ h.0.2))
unnamed word words (command.Poll a) none h = none Poll (sym h.0.3 ∙ sym (head_eq _ _ _ _ h.0.2))
unnamed word words (command.Step step.Evict) none h = none Evict (sym h.0.3 ∙ sym (head_eq _ _ _ _ h.0.2))
unnamed word words (command.Step step.Age) none h = none Age (sym h.0.3 ∙ sym (head_eq _ _ _ _ h.0.2))
unnamed word words (command.Tags f p) none h = none Tags (sym h.0.3 ∙ sym (head_eq _ _ _ _ h.0.2))

-- what holds anyhow holds of an error
pub on_err : {A B : Type 0} (r : Result A B) {P : Type 0} → P → OnErr r P
on_err (Ok x) p = tt
on_err (Err e) p = p

-- an option's value, or else an error
pub if_ok_or : {A B : Type 0} (r : Result A B) (o : Option A) (e : B) (P : A → Type 0) → r ≡ ok_or o e
    → ((x : A) → o ≡ Some x → P x) → IfOk r P
if_ok_or r (Some x) e P is f = subst (λ q. IfOk q P) (sym is) (f x refl)
if_ok_or r None e P is f = subst (λ q. IfOk q P) (sym is) tt

pub err_ok_or : {A B : Type 0} (r : Result A B) (o : Option A) (e : B) (P : Type 0) → r ≡ ok_or o e → (o ≡ None → P)
    → OnErr r P
err_ok_or r (Some x) e P is f = subst (λ q. OnErr q P) (sym is) tt
err_ok_or r None e P is f = subst (λ q. OnErr q P) (sym is) (f refl)

-- ---- how many words a command has

begins_length : (words : List (List ℕ)) (parts : List Part) (rest : List (List ℕ)) → Begins words parts rest
    → length words ≡ length parts + length rest
begins_length words [] rest b = omega (arith, ap length b)
begins_length words (part ∷ parts) rest (word, more, e, is, b) =
    omega (arith, ap length e, begins_length more parts rest b)

-- the words of the command of this name that has most
abbrev most : Keyword → ℕ
most Config = 5
most Create = 1
most Open = 2
most Close = 2
most Size = 2
most Read = 4
most Write = 4
most Append = 3
most Truncate = 3
most Fill = 3
most Flush = 2
most Do = 2
most Fail = 4
most End = 2
most Sync = 4
most Step = 2
most Drop = 2
most Fsync = 4
most Poll = 2
most Evict = 1
most Age = 1
most Tags = 3

-- whether the words of a range may follow those of the command
abbrev takes_range : Command → Bool
takes_range (command.Step (step.SyncBegin h)) = true
takes_range (command.Fsync h None) = true
takes_range _ = false

abbrev HasMost : Command → Type 0
HasMost c = (length (parts_of c) ≤ most (keyword_of c)) × (takes_range c ≡ false → length (parts_of c) ≡ most (keyword_of c))

has_most : (c : Command) → HasMost c
unfolding keyword_of
has_most (command.Config a b c d) = (omega arith, λ e. refl)
has_most (command.Step step.Create) = (omega arith, λ e. refl)
has_most (command.Step (step.Open f)) = (omega arith, λ e. refl)
has_most (command.Step (step.Close h)) = (omega arith, λ e. refl)
has_most (command.Step (step.Size h)) = (omega arith, λ e. refl)
has_most (command.Step (step.Read h o n)) = (omega arith, λ e. refl)
has_most (command.Step (step.Write h o b)) = (omega arith, λ e. refl)
has_most (command.Step (step.Append h b)) = (omega arith, λ e. refl)
has_most (command.Step (step.Truncate h z)) = (omega arith, λ e. refl)
has_most (command.Step (step.FillBegin h p)) = (omega arith, λ e. refl)
has_most (command.Step (step.FlushBegin f)) = (omega arith, λ e. refl)
has_most (command.Step (step.Call t)) = (omega arith, λ e. refl)
has_most (command.Fail t n e) = (omega arith, λ e. refl)
has_most (command.Step (step.End t)) = (omega arith, λ e. refl)
has_most (command.Step (step.SyncBegin h)) = (omega arith, λ e. absurd cc)
has_most (command.Step (step.SyncBeginRange h a b)) = (omega arith, λ e. refl)
has_most (command.Step (step.SyncStep s)) = (omega arith, λ e. refl)
has_most (command.Step (step.SyncDrop s)) = (omega arith, λ e. refl)
has_most (command.Fsync h None) = (omega arith, λ e. absurd cc)
has_most (command.Fsync h (Some r)) = (omega arith, λ e. refl)
has_most (command.Poll h) = (omega arith, λ e. refl)
has_most (command.Step step.Evict) = (omega arith, λ e. refl)
has_most (command.Step step.Age) = (omega arith, λ e. refl)
has_most (command.Tags f p) = (omega arith, λ e. refl)

some_words : (words : List (List ℕ)) → words ≢ [] → 0 < length words
some_words [] some = absurd (some refl)
some_words (word ∷ words) some = omega arith

-- words that go on after a command that takes no range ask for none
longest : (k : Keyword) (words rest : List (List ℕ)) (c d : Command) → takes_range c ≡ false
    → Begins (name_of k ∷ words) (parts_of c) rest → rest ≢ [] → ¬ (Asks (name_of k ∷ words) d)
longest k words rest c d takes begins some asked =
    let own = (named_parts k words rest c begins).0 in
    let other = (named_parts k words [] d asked.0).0 in
    let all = begins_length (name_of k ∷ words) (parts_of c) rest begins in
    let same = begins_length (name_of k ∷ words) (parts_of d) [] asked.0 in
    let exact = (has_most c).1 takes in
    let bound = (has_most d).0 in
    absurd (omega (arith, all, same, exact, bound, ap most own, ap most other, some_words rest some))

-- words that go on after a command that takes a range, and not by a range, ask for none
unranged : (k j : Keyword) (h : ℕ) (words rest : List (List ℕ))
    → Begins (name_of k ∷ words) (Name j ∷ Number h ∷ []) rest
    → (Follows j words → (a : ℕ) × (r : Option (PageIndex × PageIndex)) × Starts words (Number a ∷ range_parts r) [])
    → rest ≢ [] → ((r : PageIndex × PageIndex) → ¬ (Begins rest (range_parts (Some r)) []))
    → (d : Command) → ¬ (Asks (name_of k ∷ words) d)
unranged k j h words rest begins goes some none d asked =
    let own = named k j words (Number h ∷ []) rest begins in
    let s = goes (subst (λ x. Follows x words) (sym own.0) (asks k words d asked)) in
    no_range rest some none s.1 (after_number own.1 s.2).begins

some_same : (c d : Command) → Some c ≡ Some d → c ≡ d
some_same c d e = cc

-- a range after a command
begins_on : (words mid rest : List (List ℕ)) (parts more : List Part) → Begins words parts mid
    → Begins mid more rest → Begins words (parts ++ more) rest
begins_on words mid rest [] more a b = subst (λ w. Begins w more rest) (sym a) b
begins_on words mid rest (part ∷ parts) more (word, tail, e, is, a) b =
    (word, tail, e, is, begins_on tail mid rest parts more a b)

pub ranged_asks : (all rest : List (List ℕ)) (c d : Command) (range : PageIndex × PageIndex) → ranged c range ≡ Some d
    → Begins all (parts_of c) rest → Begins rest (range_parts (Some range)) [] → Asks all d
ranged_asks all rest (command.Step (step.SyncBegin h)) d range is begins more =
    subst (Asks all) (some_same _ d is)
    (begins_on all rest [] (Name Sync ∷ Number h.0 ∷ []) (range_parts (Some range)) begins more, tt)
ranged_asks all rest (command.Fsync h None) d range is begins more =
    subst (Asks all) (some_same _ d is)
    (begins_on all rest [] (Name Fsync ∷ Number h.0 ∷ []) (range_parts (Some range)) begins more, tt)
ranged_asks all rest c d range is begins more = absurd cc

unranged_takes : (c : Command) (range : PageIndex × PageIndex) → ranged c range ≡ None → takes_range c ≡ false
unranged_takes (command.Step (step.SyncBegin h)) range is = absurd cc
unranged_takes (command.Fsync h None) range is = absurd cc
unranged_takes c range is = refl

-- a range after a command that takes none
pub ranged_alone : (k : Keyword) (more rest : List (List ℕ)) (c d : Command) (range : PageIndex × PageIndex)
    → ranged c range ≡ None → Begins (name_of k ∷ more) (parts_of c) rest → rest ≢ [] → ¬ (Asks (name_of k ∷ more) d)
ranged_alone k more rest c d range is = longest k more rest c d (unranged_takes c range is)

-- words that go on after a command, and not by a range, ask for none
pub no_more : (k : Keyword) (more rest : List (List ℕ)) (c d : Command) → Begins (name_of k ∷ more) (parts_of c) rest
    → rest ≢ [] → ((r : PageIndex × PageIndex) → ¬ (Begins rest (range_parts (Some r)) []))
    → ¬ (Asks (name_of k ∷ more) d)
no_more k more rest (command.Step (step.SyncBegin h)) d begins some none =
    unranged k Sync h.0 more rest begins (λ f. f) some none d
no_more k more rest (command.Fsync h None) d begins some none =
    unranged k Fsync h.0 more rest begins (λ f. f) some none d
no_more k more rest c d begins some none = longest k more rest c d refl begins some
