-- A host without brackets.
use Rattle.std.specs.Prelude.{if◌then◌else◌, Option, Some, None}
use Rattle.std.specs.List.{list_any}
use Rattle.conf_rules.specs.Texts.{Bytes}
use Rattle.conf_rules.specs.Forwardings.{is_host_byte}

-- a host that has no colon and no bracket
abbrev pub plain_host : Bytes → Option Bytes
plain_host host = if list_any is_host_byte host then None else Some host
