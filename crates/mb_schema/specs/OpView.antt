-- An operation of the code, as contracts see it (this project's own profile).
use Rattle.mb_schema.specs.Operation.{OpData, add, ignore, fail, about}
use Rattle.mb_schema.specs.declared.operation.Op.{Op}
use Rattle.mb_schema.specs.declared.operation.Op.TheVariants.{Add, Ignore, Fail, About}

-- a parsed operation, as contracts see it
abbrev pub op_data : Op → OpData
op_data Add = add
op_data Ignore = ignore
op_data (Fail number) = fail number
op_data (About verb name number) = about verb name.now number
