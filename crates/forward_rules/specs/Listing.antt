-- A forwarding that is kept, as contracts see it.
use Rattle.conn_messages.specs.Keys.{own_key_of}
use Rattle.forward_rules.specs.State.{Forward}
use Rattle.forward_rules.specs.declared.listed.Listed.{Listed}

abbrev pub listed_forward_of : Listed → Forward
listed_forward_of f = record {
  client = f.client;
  key = own_key_of f.key;
  live = f.live;
  cancel = f.cancel;
}
