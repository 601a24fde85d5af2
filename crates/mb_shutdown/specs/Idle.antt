-- Whether an actor has something to run.
use Rattle.std.specs.Prelude.{◌≡◌, ◌⊎◌, ℕ, ◌+◌, ◌<◌, true, false}
use Rattle.mb_status.specs.Mailbox.{Mailbox, word_of}
use Rattle.mb_gate.specs.View.{View, counting, looking, reading}

-- By what was read of the actor in this order - its status, whether it has system work, how many envelopes wait -, it is scheduled or has something
-- to run. No more was read than needed.
abbrev pub WasReadBusy : ℕ → View → View → Type 0
WasReadBusy id before after = (status : Mailbox) × (status.closed ≡ false)
    × (((status.scheduled ≡ true) × (after ≡ reading id (word_of status) before))
    ⊎ ((status.scheduled ≡ false) × (after ≡ looking id true (reading id (word_of status) before)))
    ⊎ ((status.scheduled ≡ false) × (status.count ≡ 0) × (waiting : ℕ) × (0 < waiting)
    × (after ≡ counting id waiting (looking id false (reading id (word_of status) before)))))

-- By what was read, the actor has nothing to run: it is closed; or it is not scheduled, has no system work, and is suspended or has no envelope
-- waiting.
abbrev pub WasReadIdle : ℕ → View → View → Type 0
WasReadIdle id before after = (status : Mailbox)
    × (((status.closed ≡ true) × (after ≡ reading id (word_of status) before))
    ⊎ ((status.closed ≡ false) × (status.scheduled ≡ false) × (0 < status.count) × (after ≡ looking id false (reading id (word_of status) before)))
    ⊎ ((status.closed ≡ false) × (status.scheduled ≡ false) × (after ≡ counting id 0 (looking id false (reading id (word_of status) before)))))

-- So many actors were read, from this number on, and each had nothing to run.
pub data WereReadIdle : ℕ → ℕ → View → View → Type 0 where
  none_read : (id : ℕ) (view : View) → WereReadIdle id 0 view view
  one_more : (id count : ℕ) (before between after : View) → WereReadIdle id count before between → WasReadIdle (id + count) between after
      → WereReadIdle id (count + 1) before after
