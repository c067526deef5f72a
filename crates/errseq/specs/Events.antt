-- Recordings, looks and opens of one error word: what the record of these events answers, and what the word does. A list of events has the newest first.
use Rattle.std.specs.Prelude.{◌≡◌, ℕ, ◌+◌, ◌==◌, Bool, true, false, List, [], ◌∷◌, Option, Some, None, if◌then◌else◌}
use Rattle.errseq.specs.Word.{IsWithinTurn, IsCode, word_set, sample_of, with_seen, checked}

-- a code is recorded; a handle looks; a handle is opened
pub data Event : Type 0 where
  Record : ℕ → Event
  Look : ℕ → Event
  Open : ℕ → Event

-- ---- the record of events

-- the last code recorded
abbrev pub last_of : List Event → Option ℕ
last_of [] = None
last_of (Record c ∷ es) = Some c
last_of (Look h ∷ es) = last_of es
last_of (Open h ∷ es) = last_of es

abbrev pub has_record : List Event → Bool
has_record [] = false
has_record (Record c ∷ es) = true
has_record (Look h ∷ es) = has_record es
has_record (Open h ∷ es) = has_record es

-- some handle looked since the last recording
abbrev pub looked : List Event → Bool
looked [] = false
looked (Record c ∷ es) = false
looked (Look h ∷ es) = has_record es
looked (Open h ∷ es) = looked es

-- What a look of the handle answers. It is the last code where a recording came after the handle's last look or open, or where the handle hasn't looked since its open and nobody had looked between the last recording before that and the open. Else it is nothing. A handle that was never opened is as one opened at the beginning
abbrev pub answer : ℕ → List Event → Option ℕ
answer h [] = None
answer h (Record c ∷ es) = Some c
answer h (Look g ∷ es) = if g == h then None else answer h es
answer h (Open g ∷ es) = if g == h then (if looked es then None else last_of es) else answer h es

-- how many recordings that raise the counter came after the handle's last look or open
abbrev pub raising_since : ℕ → List Event → ℕ
raising_since h [] = 0
raising_since h (Record c ∷ es) = raising_since h es + (if looked es then 1 else 0)
raising_since h (Look g ∷ es) = if g == h then 0 else raising_since h es
raising_since h (Open g ∷ es) = if g == h then 0 else raising_since h es

abbrev pub AllCodes : List Event → Type 0
AllCodes [] = Unit {0}
AllCodes (Record c ∷ es) = IsCode c × AllCodes es
AllCodes (Look h ∷ es) = AllCodes es
AllCodes (Open h ∷ es) = AllCodes es

-- ---- the word

-- the word, and each handle's sample
pub record Words : Type 0 where
  pub word : ℕ
  pub since : ℕ → ℕ

-- the word and the samples after these events: a recording is `set`, a look `check_and_advance`, an open `sample`
abbrev pub after : List Event → Words
after [] = record { word = 0; since = λ h. 0 }
after (Record c ∷ es) = record { word = word_set (after es).word c; since = (after es).since }
after (Look h ∷ es) =
    if (after es).word == (after es).since h then after es
    else record { word = with_seen (after es).word; since = λ g. if h == g then with_seen (after es).word else (after es).since g }
after (Open h ∷ es) = record { word = (after es).word; since = λ g. if h == g then sample_of (after es).word else (after es).since g }

-- after any events, a look of any handle answers what the record answers, under the premise on the counter
abbrev pub AnswersAsRecorded : Type 0
AnswersAsRecorded = (es : List Event) (h : ℕ) → AllCodes es → IsWithinTurn (raising_since h es) → checked (after es).word ((after es).since h) ≡ answer h es
