-- What the actors of a scenario do. The first script is that of number 1, since 0 is the guardian's, which has none.
use Rattle.std.specs.Prelude.{ℕ, ℤ, List}
use Rattle.mb_actor.specs.Behaviour.{Moment, Reply}
use Rattle.mb_actor.specs.declared.message.Message.{Message}
use Rattle.mb_script.specs.Script.{Scripted, after_of, gives_of}
use Rattle.heddleorange.specs.WholeRun.{after_at, gives_at}

-- The state of the actor of this number after the messages since its last start, by its script.
abbrev pub after_by_scripts : List Scripted → ℕ → List Message → ℤ
after_by_scripts scripts number messages = after_at scripts (λ (s : Scripted). after_of s.script.initial s.script.rows) number messages

-- What a call of the actor of this number may give, by its script.
abbrev pub gives_by_scripts : List Scripted → ℕ → Moment → Reply → Type 0
gives_by_scripts scripts number moment reply = gives_at scripts (λ (s : Scripted). gives_of s.script) number moment reply
