-- A port of the queue that all share, as contracts see it (this project's own profile).
use Rattle.mb_pool.specs.declared.shared_port.SharedPort.{SharedPort}
use Rattle.mb_pool.specs.declared.shared_port.SharedPort.TheVariants.{Bounded, Unbounded}
use Rattle.mb_pool.specs.Places.{PoolPort}

-- a port of the queue that all share, as contracts see it
abbrev pub port_view : {H : Type 0} → SharedPort H → PoolPort H
port_view (Bounded port) = port
port_view (Unbounded port) = port
