-- The limits of a connection to the pages.
use Rattle.std.specs.Prelude.{◌≡◌}
use Rattle.http_server.specs.declared.state.Config.{Config}

-- a head of 8,192 bytes, a body of 65,535, and one request after another, so that none is read before the answer to the last is
-- sent; a read has room for 8,192 bytes, all extensions of a body's chunks may have 16,384, and so may what follows a body
abbrev pub ArePageLimits : Config → Type 0
ArePageLimits config = (config.limits.max_head_len ≡ 8192) × (config.max_body_len ≡ 65535) × (config.max_pending ≡ 0)
    × (config.read_size ≡ 8192) × (config.limits.max_extensions_len ≡ 16384) × (config.limits.max_trailers_len ≡ 16384)
