-- The messages in a chain of boxes.
use Rattle.std.specs.Prelude.{◌≡◌, ◌+◌, ◌%◌, ◌^◌, List, [], ◌∷◌, IsTrue, length}
use Rattle.mb_msg.specs.declared.system.SysMsg.{SysMsg}
use Rattle.mb_syslist.specs.declared.link.Link.{Link, End, More'}
use Rattle.mb_syslist.specs.declared.list.SysList.TheInside.{Inside}

-- the messages, from the first box on (this project's own profile)
abbrev pub boxed : Link → List SysMsg
boxed End = []
boxed (More' place message next) = message ∷ boxed next

-- how a list keeps its counts: as many were pushed as were given and are listed, and a closed list lists nothing
pub record IsCounted (list : Inside) : Type 0 where
  pub counted : list.pushed ≡ (list.given + length (boxed list.latest)) % 2 ^ 64
  pub ended : IsTrue list.closed → boxed list.latest ≡ []
