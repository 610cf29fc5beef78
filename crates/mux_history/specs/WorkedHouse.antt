-- Worked runs with a forwarder: replies that come later, and the forwarder as a client.
use Rattle.std.specs.Prelude.{ℕ, List, [], ◌∷◌, ◌++◌, None, Some, codes}
use Rattle.mux_outside.specs.declared.house.HouseReply.{HouseReply}
use Rattle.mux_outside.specs.declared.house.HouseReply.TheVariants as reply
use Rattle.mux_outside.specs.declared.house_mark.HouseMark.TheVariants.{HouseIn, HouseSaid, HouseTook, HouseAnswer, HouseOrder}
use Rattle.mux_outside.specs.declared.order.Order.TheVariants.{Connect}
use Rattle.mux_outside.specs.declared.mark.Mark.{Mark}
use Rattle.mux_outside.specs.declared.mark.Mark.TheVariants.{Gets, Ends, Fails, Frees, Joins, House}
use Rattle.mux_history.specs.Worked.{hex, greets, hello}

-- a remote forwarding of a port that the server is to choose, to port 80 of a host
abbrev pub asks_any_port : Mark
asks_any_port =
    Gets 1 (hex (codes "0000001f 10000006 00000004 00000002 00000000 00000000 00000003")
    ++ (codes "web" ++ hex (codes "00000050")))

-- the forwarder replies so once the server has
abbrev pub replied_later : HouseReply → List Mark
replied_later given = greets 1 ++ asks_any_port ∷ House (HouseAnswer 1 4 given) ∷ []

-- the client has sent PROXY meanwhile
abbrev pub replied_in_proxy : List Mark
replied_in_proxy =
    greets 1 ++ asks_any_port ∷ Gets 1 (hex (codes "00000008 1000000f 00000000"))
    ∷ House (HouseAnswer 1 4 (reply.Port 40001)) ∷ []

-- the forwarder enters proxy mode and opens a channel; the server confirms it and sends "ok" in it
abbrev pub house_opens : List Mark
house_opens =
    House HouseIn ∷ House (HouseSaid (hello ++ hex (codes "00000008 1000000f 00000000")))
    ∷ House (HouseTook 24)
    ∷ House (HouseSaid (hex (codes "00000039 00 5a 0000000c") ++ (codes "direct-tcpip"
    ++ (hex (codes "00000000 00200000 00008000 00000002") ++ (codes "db"
    ++ (hex (codes "00001538 00000009") ++ (codes "127.0.0.1" ++ hex (codes "00000000"))))))))
    ∷ Gets 0 (hex (codes "00000012 00 5b 00000000 00000005 00000003 00008000"))
    ∷ Gets 0 (hex (codes "0000000c 00 5e 00000000 00000002") ++ codes "ok") ∷ []

-- the master's own streams: one that was accepted, and one that the forwarder ordered
abbrev pub own_streams : List Mark
own_streams =
    Joins 9223372036854775808 9223372036854775809 ∷ Gets 9223372036854775809 (codes "hello")
    ∷ Ends 9223372036854775809
    ∷ House (HouseOrder (Connect (codes "web") 80) (Some 9223372036854775810))
    ∷ Frees 9223372036854775810 ∷ Fails 9223372036854775810 ∷ []
