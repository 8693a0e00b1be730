-- The names of hosts.
use Rattle.std.specs.Prelude.{ℕ, List, ◌++◌, codes, decimal}

-- a host with its port, as browsers write it
abbrev pub with_port : List ℕ → ℕ → List ℕ
with_port name port = (name ++ codes ":") ++ decimal port
