-- A closure may go to another thread where each value that it captures may, in a function with type parameters of its own.
use Prim.Native.Nat.{ℕ}
use mir.Syntax.{Sym, Ty}
use denote.Exit.{yes}
use denote.RattleType.{RattleType}
use denote.Param.{arg, param}
use denote.Param.Send.{AllSend, IsSend, arg_send, param_send}
use denote.Param.SendFields.{FieldsHave, as_row_send, declared_send}
use denote.Struct.Field.{row_field}
use denote.Struct.Tuple.{TupleAt, parts, type_at}
use Rattle.std.proofs.Common.{List, [], ◌∷◌}

each_captured : (Ts : List RattleType) → AllSend Ts → FieldsHave IsSend (parts Ts)
each_captured [] s = tt
each_captured (T ∷ Ts) s = (as_row_send (row_field T) s.0, each_captured Ts s.1)

pub captured : (i : ℕ) (name : Sym) (mark : Ty) (Ts : List RattleType) → AllSend Ts → IsSend (param i (arg mark yes (TupleAt name Ts)))
captured i name mark Ts s =
    param_send i (arg mark yes (TupleAt name Ts))
    (arg_send mark yes (TupleAt name Ts) (declared_send (type_at name Ts) (each_captured Ts s)))
