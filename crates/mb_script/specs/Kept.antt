-- How a script keeps its rows (this project's own profile).
use Rattle.mb_script.specs.Index.{IsIndexFrom}
use Rattle.mb_script.specs.declared.script.Script.TheInside.{Inside}

-- its index is that of its rows
pub record IsIndexed (s : Inside) : Type 0 where
  pub indexed : IsIndexFrom 0 s.rows.items s.index.items
