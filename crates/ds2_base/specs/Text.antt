-- Texts: which bytes are one.
use Rattle.std.specs.Prelude.{Option, Some, None, if◌then◌else◌}
use Rattle.std.specs.Str.{is_utf8}
use Rattle.ds2_base.specs.Bytes.{Bytes}

-- the text with these bytes, where they are UTF-8
abbrev pub text_of : Bytes → Option Bytes
text_of bytes = if is_utf8 bytes then Some bytes else None
